use Rattle.std.proofs.Common.{sym}
use Rattle.pc_syntax.specs.Tree.{asks_clear, cell_of}
use Rattle.pc_sheet.specs.WellFormed.{is_of_cell}
use Rattle.pc_books.specs.Edits.{without_cell}
use Rattle.pc_spreadsheet.specs.Commands.{state_of}
use Rattle.pc_spreadsheet.proofs.Ample.{cell_ample}
use Rattle.pc_spreadsheet.proofs.Telling.{refused_for}
use Rattle.pc_spreadsheet.proofs.Editing.{cleared_so, clearing_lacks, clearing_needs, removal_told, removal_lawful}
use Rattle.pc_spreadsheet.proofs.edits.clear.Goals as goal

pub returns-in-Err : goal.returns-in-Err
returns-in-Err c =
    let cell = cell_of c.args.cell.now in
    refused_for (state_of c.args.session.now, c.args.notes.now) c.book.result.now (asks_clear cell) c.in-Err.fault c.refuse.result (sym c.book.ensures) (cell_ample c.book.result.now.universe cell) c.in-Err.ensures.exact.told c.refuse.ensures

pub returns-in-Ok-clear : goal.returns-in-Ok-clear
returns-in-Ok-clear c =
    let named = rw c.book.ensures at c.in-Ok.ensures.exact.told in
    cleared_so c.args.session.now c.clear.new.self c.args.notes.now c.in-Ok.cell (cell_of c.args.cell.now) c.clear.result (_, named) c.clear.ensures.no_entry c.in-Ok-clear.is c.in-Ok-clear.ensures.sheet c.clear.ensures.budget

pub tell_refused-requires : goal.tell_refused-requires
tell_refused-requires c = removal_lawful c.args.session.now c.clear.new.self c.args.notes.now (is_of_cell c.in-Ok.cell) (without_cell c.args.session.now.sheet c.in-Ok.cell) c.in-Ok.cell c.in-Err-clear.refused c.in-Err-clear.ensures.refused

pub returns-in-Err-clear : goal.returns-in-Err-clear
returns-in-Err-clear c =
    let s = c.args.session.now in
    let k = c.in-Ok.cell in
    let cell = cell_of c.args.cell.now in
    let named = rw c.book.ensures at c.in-Ok.ensures.exact.told in
    removal_told s c.clear.new.self c.args.notes.now (asks_clear cell) (is_of_cell k) (without_cell s.sheet k) k c.in-Err-clear.refused c.tell_refused.new.notes c.tell_refused.result c.tell_refused.ensures
    (clearing_lacks s c.clear.new.self c.args.notes.now k cell (_, named))
    (clearing_needs s c.clear.new.self c.args.notes.now k cell c.clear.result c.in-Err-clear.refused (_, named) c.in-Err-clear.is c.clear.ensures.no_entry c.clear.ensures.spare)
    c.in-Err-clear.ensures.refused c.in-Err-clear.ensures.unchanged.0
