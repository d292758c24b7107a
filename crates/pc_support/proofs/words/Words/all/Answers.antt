use Rattle.std.proofs.Common.{true, List, Bool, length, ap, ◌∙◌, arith}
use Rattle.std.proofs.lemmas.List.{length_push}
use Rattle.pc_support.proofs.WordLemmas.{all_more}
use Rattle.pc_support.proofs.words.Words.all.Goals as goal

pub loop-place-init : goal.loop-place-init
loop-place-init c = record {
  size = ap (λ (xs : List Bool). length xs) c.new-words.ensures;
  each = λ at below. absurd (omega (arith, below));
}

pub loop-place-preserved : goal.loop-place-preserved
loop-place-preserved c = record {
  size = let e = ap (λ (xs : List Bool). length xs) c.in_ok-push.ensures ∙ length_push c.loop-place.words true in omega (arith, e, c.loop-place.invariant.size);
  each = rw c.in_ok-push.ensures (all_more c.loop-place.words c.loop-place._place c.loop-place.invariant.size c.loop-place.invariant.each);
}
