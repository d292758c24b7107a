use Rattle.std.proofs.Common.{sym, subst}
use Rattle.std.proofs.lemmas.Bool.{iff_false}
use Rattle.pc_checker.specs.Entered.{HavePlaces}
use Rattle.pc_checker.proofs.EnteredLemmas.{still_have_places}
use Rattle.pc_checker.proofs.SetLemmas.{contained_by, not_true}
use Rattle.pc_checker.proofs.sets.are_apart.Goals as goal

pub is_within-requires-clause-uses : goal.is_within-requires-clause-uses
is_within-requires-clause-uses c = subst (HavePlaces c.args.marks.now) (sym c.deref.ensures.value) c.requires.set

pub is_within-requires-clause-others : goal.is_within-requires-clause-others
is_within-requires-clause-others c = subst (HavePlaces c.args.marks.now) (sym c.deref-2.ensures.value) c.requires.other

pub is_within-requires-2-clause-uses : goal.is_within-requires-2-clause-uses
is_within-requires-2-clause-uses c =
    still_have_places c.args.marks.now c.is_within.new.marks c.deref-3.result.now c.is_within.ensures.room (subst (HavePlaces c.args.marks.now) (sym c.deref-3.ensures.value) c.requires.other)

pub is_within-requires-2-clause-others : goal.is_within-requires-2-clause-others
is_within-requires-2-clause-others c =
    still_have_places c.args.marks.now c.is_within.new.marks c.deref-4.result.now c.is_within.ensures.room (subst (HavePlaces c.args.marks.now) (sym c.deref-4.ensures.value) c.requires.set)

pub returns-then-is_within-clause-apart : goal.returns-then-is_within-clause-apart
returns-then-is_within-clause-apart c =
    let one = contained_by c.is_within.result c.args.set.now.uses.items c.args.other.now.uses.items c.deref.result.now c.deref-2.result.now c.deref.ensures.value c.deref-2.ensures.value c.is_within.ensures.within in
    (λ z. absurd (cc), λ h. absurd (h.0 (one.0 c.if-is_within.true)))

pub returns-clause-apart : goal.returns-clause-apart
returns-clause-apart c =
    let one = contained_by c.is_within.result c.args.set.now.uses.items c.args.other.now.uses.items c.deref.result.now c.deref-2.result.now c.deref.ensures.value c.deref-2.ensures.value c.is_within.ensures.within in
    let other = contained_by c.is_within-2.result c.args.other.now.uses.items c.args.set.now.uses.items c.deref-3.result.now c.deref-4.result.now c.deref-3.ensures.value c.deref-4.ensures.value c.is_within-2.ensures.within in
    let test = not_true c.is_within-2.result _ other in
    (λ z. (iff_false one c.if-is_within.false, test.0 z), λ h. test.1 h.1)
