use Rattle.std.proofs.Common.{ℕ, List, length, ap, arith, subst, true, ◌≡◌, ◌↔◌, Contains}
use Rattle.std.proofs.lemmas.List.{take_all}
use Rattle.pc_log.specs.inside.Bits.{bit}
use Rattle.pc_log.proofs.PlaceLemmas.{bits_none, bits_more}
use Rattle.pc_log.proofs.bit_set.words_of.Goals as goal

pub loop-place-init : goal.loop-place-init
loop-place-init c = record {
  few = omega (arith, ap (λ (ws : List ℕ). length ws) c.in_ok-words.ensures.items);
  has = bits_none c.args.places.now c.in_ok-words.words.items c.in_ok-words.ensures.items;
}

pub loop-place-preserved : goal.loop-place-preserved
loop-place-preserved c = record {
  few = c.in_ok-add_place.ensures.few;
  has = bits_more c.args.places.now c.loop-place.place-index 0 c.loop-place.words.items c.add_place.new.words.items c.loop-place-test.true c.loop-place.invariant.has c.in_ok-add_place.ensures.same c.in_ok-add_place.ensures.others;
}

pub returns-clause-has : goal.returns-clause-has
returns-clause-has c = subst (λ (ps : List ℕ). (p : ℕ) → (bit c.loop-place.words.items p ≡ true) ↔ Contains ps p) (take_all c.loop-place.place-index c.args.places.now (omega (arith, c.loop-place-test.false))) c.loop-place.invariant.has
