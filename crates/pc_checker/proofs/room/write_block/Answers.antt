use Rattle.std.proofs.Common.{List, All, arith, refl, ap, sym, ◌∙◌, subst}
use Rattle.pc_cert.specs.declared.cert.Said.{Said}
use Rattle.pc_cert.specs.declared.cert.SaidSet.{SaidSet}
use Rattle.pc_accept.specs.Sets.{block_of}
use Rattle.pc_checker.specs.Drafts.{AreWritten}
use Rattle.pc_checker.specs.Made.{entries_of}
use Rattle.pc_sheet.specs.WellFormed.{IsEntryOf}
use Rattle.pc_checker.specs.Entered.{HavePlaces}
use Rattle.pc_checker.proofs.EnteredLemmas.{entries_have_places, sets_have_places}
use Rattle.pc_checker.proofs.SetLemmas.{set_has_places}
use Rattle.pc_checker.proofs.BlockLemmas.{block_written, no_block}
use Rattle.pc_checker.proofs.room.write_block.Goals as goal

pub write_outside-requires-clause-entries : goal.write_outside-requires-clause-entries
write_outside-requires-clause-entries c =
    let u = c.args.book.now.universe in
    entries_have_places u c.args.marks.now c.entries.result.now c.well_formed-2.ensures.universe c.requires.marks (subst (All (IsEntryOf u)) (sym c.entries.ensures.items) c.well_formed-2.ensures.entries.each)

pub write_outside-requires-clause-uses : goal.write_outside-requires-clause-uses
write_outside-requires-clause-uses c =
    let used : SaidSet → List Said = λ s. s.uses.items in
    subst (HavePlaces c.args.marks.now) (sym (c.deref.ensures.value ∙ ap used (sym c.index-sets-place.is)))
    (set_has_places c.args.marks.now c.args.marks.now c.args.sets.now c.args.place c.index-sets-place.result (omega (arith, c.if-place-sets.false)) c.index-sets-place.is refl
    (sets_have_places c.args.book.now c.args.marks.now c.args.sets.now c.well_formed-2.ensures.universe c.requires.marks c.requires.sets))

pub returns-then-place-sets-clause-written : goal.returns-then-place-sets-clause-written
returns-then-place-sets-clause-written c = no_block c.args.book.now c.args.sets.now c.args.place c.args.draft.now (omega (arith, c.if-place-sets.true))

pub returns-clause-written : goal.returns-clause-written
returns-clause-written c =
    let used : SaidSet → List Said = λ s. s.uses.items in
    block_written c.args.book.now c.args.sets.now c.args.place c.index-sets-place.result c.entries.result.now c.args.draft.now c.write_outside.new.draft (omega (arith, c.if-place-sets.false)) c.index-sets-place.is c.entries.ensures.items c.requires.blank
    (subst (λ us. AreWritten c.args.draft.now c.write_outside.new.draft (block_of c.entries.result.now (entries_of us))) (c.deref.ensures.value ∙ ap used (sym c.index-sets-place.is)) c.in_ok-write_outside.ensures.written)
