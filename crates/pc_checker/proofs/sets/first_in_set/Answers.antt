use Rattle.std.proofs.Common.{inl, inr, arith, refl, sym, ◌∙◌, subst}
use Rattle.std.proofs.lemmas.Bool.{iff_false, cases_eq}
use Rattle.pc_checker.specs.Made.{AreApartAt}
use Rattle.pc_checker.proofs.EnteredLemmas.{sets_still_have_places}
use Rattle.pc_checker.proofs.SetLemmas.{all_apart, first_within}
use Rattle.pc_checker.proofs.sets.first_in_set.Goals as goal

pub returns-then-not-is_apart_from-clause-line : goal.returns-then-not-is_apart_from-clause-line
returns-then-not-is_apart_from-clause-line c = (_, first_within c.args.sets.now c.loop-place.place c.index-sets-place.result c.loop-place-test.true c.loop-place.invariant.apart (iff_false c.is_apart_from.ensures.apart c.if-not-is_apart_from.true), refl)

pub loop-place-init : goal.loop-place-init
loop-place-init c = record {
  apart = c.requires.apart.apart;
  room = refl;
}

pub loop-place-preserved : goal.loop-place-preserved
loop-place-preserved c = record {
  apart = λ j l. elim (cases_eq j c.loop-place.place) [
    | inl is ↦ subst (AreApartAt c.args.sets.now) (sym is) (c.is_apart_from.ensures.apart.0 c.if-not-is_apart_from.false)
    | inr other ↦ c.loop-place.invariant.apart j (omega (arith, l, other))
  ];
  room = c.is_apart_from.ensures.room ∙ c.loop-place.invariant.room;
}

pub is_apart_from-requires-clause-places : goal.is_apart_from-requires-clause-places
is_apart_from-requires-clause-places c = sets_still_have_places c.args.marks.now c.loop-place.marks c.args.sets.now c.loop-place.invariant.room c.requires.places

pub returns-clause-line : goal.returns-clause-line
returns-clause-line c = all_apart c.args.sets.now c.loop-place.place c.loop-place-test.false c.loop-place.invariant.apart
