use Rattle.std.proofs.Common.{◌≤◌, ◌+◌, ◌∙◌, All, length, take, arith, ap, sym, subst}
use Rattle.std.proofs.lemmas.List.{take_all}
use Rattle.pc_sheet.specs.WellFormed.{entries_of, IsEntryOf}
use Rattle.pc_sheet.specs.declared.ids.CellId.{CellId}
use Rattle.pc_sheet.specs.declared.ids.Entry.{Entry}
use Rattle.pc_writer.specs.SheetText.{has_several}
use Rattle.pc_writer.proofs.LaterEntries.{AreNoted, within_cells, none_noted, noted_more, several_none, several_told, single_still}
use Rattle.pc_writer.proofs.later.has_several.Goals as goal

abbrev none : Entry
none = record { cell = record { 0 = 0 }; value = record { 0 = 0 } }

pub loop-entry-init : goal.loop-entry-init
loop-entry-init c = (none_noted, λ cell. omega arith)

pub note-requires : goal.note-requires
note-requires c =
    let u = c.args.book.now.universe in
    let es = c.entries-entry-items.result.now in
    let each = subst (All (IsEntryOf u)) (sym c.entries-entry-items.ensures.items) c.requires.entries.each in
    within_cells u c.requires.universe es each c.loop-entry.entry-index none c.loop-entry-test.true

pub loop-entry-preserved : goal.loop-entry-preserved
loop-entry-preserved c =
    let u = c.args.book.now.universe in
    let es = c.entries-entry-items.result.now in
    let i = c.loop-entry.entry-index in
    let below = c.loop-entry-test.true in
    let each = subst (All (IsEntryOf u)) (sym c.entries-entry-items.ensures.items) c.requires.entries.each in
    let within = within_cells u c.requires.universe es each i none below in
    let more = noted_more es i none below c.loop-entry.noted c.loop-entry.invariant.0 within in (
      subst (λ ns. AreNoted ns (take (i + 1) es)) (sym c.note.ensures.after) more,
      single_still es i none below c.loop-entry.noted c.loop-entry.invariant.0 within c.note.result c.note.ensures.before c.if-note.false c.loop-entry.invariant.1,
    )

pub returns-then-note : goal.returns-then-note
returns-then-note c =
    let u = c.args.book.now.universe in
    let es = c.entries-entry-items.result.now in
    let i = c.loop-entry.entry-index in
    let below = c.loop-entry-test.true in
    let each = subst (All (IsEntryOf u)) (sym c.entries-entry-items.ensures.items) c.requires.entries.each in
    let within = within_cells u c.requires.universe es each i none below in
    sym (ap has_several (sym c.entries-entry-items.ensures.items) ∙ several_told es i none below c.loop-entry.noted c.loop-entry.invariant.0 within c.note.result c.note.ensures.before c.if-note.true)

pub returns : goal.returns
returns c =
    let es = c.entries-entry-items.result.now in
    let single = subst (λ all. (cell : CellId) → length (entries_of cell all) ≤ 1) (take_all c.loop-entry.entry-index es c.loop-entry-test.false) c.loop-entry.invariant.1 in
    sym (ap has_several (sym c.entries-entry-items.ensures.items) ∙ several_none es single)
