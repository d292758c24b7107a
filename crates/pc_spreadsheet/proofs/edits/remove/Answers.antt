use Rattle.std.proofs.Common.{sym}
use Rattle.pc_syntax.specs.Tree.{asks_clear_one, cell_of, value_of}
use Rattle.pc_books.specs.Edits.{is_same_entry, without_entry}
use Rattle.pc_spreadsheet.specs.Commands.{state_of}
use Rattle.pc_spreadsheet.proofs.Ample.{entry_ample}
use Rattle.pc_spreadsheet.proofs.Telling.{refused_for}
use Rattle.pc_spreadsheet.proofs.Editing.{removed_so, removing_lacks, removing_needs, removal_told, removal_lawful}
use Rattle.pc_spreadsheet.proofs.edits.remove.Goals as goal

pub returns-in-Err : goal.returns-in-Err
returns-in-Err c =
    let cell = cell_of c.args.cell.now in
    let value = value_of c.args.value.now in
    refused_for (state_of c.args.session.now, c.args.notes.now) c.book.result.now (asks_clear_one cell value) c.in-Err.fault c.refuse.result (sym c.book.ensures) (entry_ample c.book.result.now.universe cell value) c.in-Err.ensures c.refuse.ensures

pub returns-in-Ok-clear_one : goal.returns-in-Ok-clear_one
returns-in-Ok-clear_one c =
    let named = (rw c.book.ensures at c.in-Ok.ensures).0 in
    removed_so c.args.session.now c.clear_one.new.self c.args.notes.now c.in-Ok.entry (cell_of c.args.cell.now) (value_of c.args.value.now) c.clear_one.result named c.clear_one.ensures.no_entry c.in-Ok-clear_one.is c.in-Ok-clear_one.ensures.sheet c.clear_one.ensures.budget

pub tell_refused-requires : goal.tell_refused-requires
tell_refused-requires c = removal_lawful c.args.session.now c.clear_one.new.self c.args.notes.now (is_same_entry c.in-Ok.entry) (without_entry c.args.session.now.sheet c.in-Ok.entry) c.in-Ok.entry.cell c.in-Err-clear_one.refused c.in-Err-clear_one.ensures.refused

pub returns-in-Err-clear_one : goal.returns-in-Err-clear_one
returns-in-Err-clear_one c =
    let s = c.args.session.now in
    let e = c.in-Ok.entry in
    let cell = cell_of c.args.cell.now in
    let value = value_of c.args.value.now in
    let named = (rw c.book.ensures at c.in-Ok.ensures).0 in
    removal_told s c.clear_one.new.self c.args.notes.now (asks_clear_one cell value) (is_same_entry e) (without_entry s.sheet e) e.cell c.in-Err-clear_one.refused c.tell_refused.new.notes c.tell_refused.result c.tell_refused.ensures
    (removing_lacks s c.clear_one.new.self c.args.notes.now e cell value named)
    (removing_needs s c.clear_one.new.self c.args.notes.now e cell value c.clear_one.result c.in-Err-clear_one.refused named c.in-Err-clear_one.is c.clear_one.ensures.no_entry c.clear_one.ensures.spare)
    c.in-Err-clear_one.ensures.refused c.in-Err-clear_one.ensures.unchanged.0
