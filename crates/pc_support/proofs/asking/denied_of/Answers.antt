use Rattle.std.proofs.Common.{Bool, List, length, arith, ap, ◌∙◌}
use Rattle.std.proofs.lemmas.List.{length_push}
use Rattle.pc_support.proofs.AskingLemmas.{core_within_set, core_more, core_whole}
use Rattle.pc_support.proofs.asking.denied_of.Goals as goal

pub loop-place-preserved : goal.loop-place-preserved
loop-place-preserved c = record {
  size = let e = ap (λ (xs : List Bool). length xs) c.in_ok-push.ensures ∙ length_push c.loop-place.core c.is_denied.result in omega (arith, e, c.loop-place.invariant.size);
  within = rw c.in_ok-push.ensures (core_within_set c.args.set.now c.loop-place.core c.loop-place.place c.is_denied.result c.loop-place.invariant.size (λ is. (c.is_denied.ensures.0 is).0) c.loop-place.invariant.within);
  has = rw c.in_ok-push.ensures (core_more c.args.question.now.literals.now c.args.set.now c.args.clause.now c.loop-place.core c.loop-place.place _ c.negated-denied.result c.is_denied.result c.loop-place.invariant.size c.negated-denied.ensures c.is_denied.ensures c.loop-place.invariant.has);
}

pub returns : goal.returns
returns c =
    core_whole c.args.question.now.literals.now c.args.set.now c.args.clause.now c.loop-place.core c.loop-place.place (omega (arith, c.loop-place-test.false)) c.loop-place.invariant.within c.loop-place.invariant.has
