use Rattle.std.proofs.Common.{refl, ◌∙◌, arith}
use Rattle.std.proofs.lemmas.Bool.{iff_false}
use Rattle.pc_checker.proofs.SetLemmas.{apart_more, not_apart_at, set_has_places}
use Rattle.pc_checker.proofs.sets.is_apart_from.Goals as goal

pub returns-then-not-are_apart-clause-apart : goal.returns-then-not-are_apart-clause-apart
returns-then-not-are_apart-clause-apart c = (
  λ z. absurd (cc),
  λ h. absurd
      (not_apart_at c.args.sets.now c.args.place c.loop-earlier.earlier c.index-sets-earlier.result c.index-sets-place.result c.loop-earlier-test.true c.requires.place c.index-sets-earlier.is c.index-sets-place.is
      (iff_false c.are_apart.ensures.apart c.if-not-are_apart.true) h),
)

pub loop-earlier-preserved : goal.loop-earlier-preserved
loop-earlier-preserved c = record {
  apart = apart_more c.args.sets.now c.args.place c.loop-earlier.earlier c.index-sets-earlier.result c.index-sets-place.result c.loop-earlier-test.true c.requires.place c.index-sets-earlier.is c.index-sets-place.is
      c.loop-earlier.invariant.apart (c.are_apart.ensures.apart.0 c.if-not-are_apart.false);
  room = c.are_apart.ensures.room ∙ c.loop-earlier.invariant.room;
}

pub are_apart-requires-clause-set : goal.are_apart-requires-clause-set
are_apart-requires-clause-set c =
    set_has_places c.args.marks.now c.loop-earlier.marks c.args.sets.now c.loop-earlier.earlier c.index-sets-earlier.result (omega (arith, c.loop-earlier-test.true, c.requires.place)) c.index-sets-earlier.is c.loop-earlier.invariant.room c.requires.places

pub are_apart-requires-clause-other : goal.are_apart-requires-clause-other
are_apart-requires-clause-other c =
    set_has_places c.args.marks.now c.loop-earlier.marks c.args.sets.now c.args.place c.index-sets-place.result c.requires.place c.index-sets-place.is c.loop-earlier.invariant.room c.requires.places

pub returns-clause-apart : goal.returns-clause-apart
returns-clause-apart c = (λ z k d l. c.loop-earlier.invariant.apart k d (omega (arith, l, c.loop-earlier-test.false)), λ h. refl)
