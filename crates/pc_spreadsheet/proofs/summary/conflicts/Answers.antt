use Rattle.std.proofs.Common.{List, refl, subst, ◌∙◌, arith, get_or}
use Rattle.std.proofs.lemmas.List.{take_all}
use Rattle.pc_sheet.specs.declared.ids.Entry.{Entry}
use Rattle.pc_spreadsheet.specs.Summary.{IsCount, HasConflict, none_left}
use Rattle.pc_spreadsheet.proofs.Summing.{no_entry, entries_are, entries_fit, next_entry}
use Rattle.pc_spreadsheet.proofs.summary.conflicts.Goals as goal

pub loop-entry-init : goal.loop-entry-init
loop-entry-init c = record { counted = none_left; few = omega arith }

pub conflict-count-requires : goal.conflict-count-requires
conflict-count-requires c =
    entries_fit c.args.session.now.sheet c.book.result.now c.entries-entries.result.now c.entries-entries.ensures.items c.book.ensures c.entries-entries.ensures.well_formed c.loop-entry.entry-index no_entry c.loop-entry-test.true

pub overflow_add-count : goal.overflow_add-count
overflow_add-count c = omega (arith, c.loop-entry.invariant.few, c.conflict-count.ensures.few)

pub loop-entry-preserved : goal.loop-entry-preserved
loop-entry-preserved c =
    let es = c.entries-entries.result.now in
    record {
      counted = next_entry c.args.session.now.sheet es c.loop-entry.entry-index c.loop-entry.count c.conflict-count.result (get_or es c.loop-entry.entry-index no_entry) no_entry c.loop-entry-test.true refl c.loop-entry.invariant.counted c.conflict-count.ensures.exact;
      few = omega (arith, c.loop-entry.invariant.few, c.conflict-count.ensures.few);
    }

pub returns : goal.returns
returns c =
    let sheet = c.args.session.now.sheet in
    let es = c.entries-entries.result.now in
    let whole = take_all c.loop-entry.entry-index es c.loop-entry-test.false ∙ entries_are sheet c.book.result.now es c.entries-entries.ensures.items c.book.ensures in
    subst (λ (xs : List Entry). IsCount (HasConflict sheet) xs c.loop-entry.count) whole c.loop-entry.invariant.counted
