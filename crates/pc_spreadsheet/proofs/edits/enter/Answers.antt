use Rattle.std.proofs.Common.{sym}
use Rattle.pc_syntax.specs.Tree.{asks_enter, cell_of, value_of}
use Rattle.pc_books.specs.Edits.{entered}
use Rattle.pc_spreadsheet.specs.Commands.{state_of}
use Rattle.pc_spreadsheet.proofs.Ample.{entry_ample}
use Rattle.pc_spreadsheet.proofs.Telling.{refused_for}
use Rattle.pc_spreadsheet.proofs.Editing.{entered_so, entering_needs, entry_told, entry_lawful}
use Rattle.pc_spreadsheet.proofs.edits.enter.Goals as goal

pub returns-in-Err : goal.returns-in-Err
returns-in-Err c =
    let cell = cell_of c.args.cell.now in
    let value = value_of c.args.value.now in
    refused_for (state_of c.args.session.now, c.args.notes.now) c.book.result.now (asks_enter cell value) c.in-Err.fault c.refuse.result (sym c.book.ensures) (entry_ample c.book.result.now.universe cell value) c.in-Err.ensures c.refuse.ensures

pub returns-in-Ok-enter : goal.returns-in-Ok-enter
returns-in-Ok-enter c =
    let named = (rw c.book.ensures at c.in-Ok.ensures).0 in
    entered_so c.args.session.now c.enter.new.self c.args.notes.now c.in-Ok.entry (cell_of c.args.cell.now) (value_of c.args.value.now) named c.in-Ok-enter.ensures.sheet c.enter.ensures.budget

pub tell_refused-requires : goal.tell_refused-requires
tell_refused-requires c = entry_lawful c.args.session.now c.enter.new.self c.args.notes.now (entered c.args.session.now.sheet c.in-Ok.entry) c.in-Ok.entry.cell c.in-Err-enter.refused c.in-Err-enter.ensures.refused

pub returns-in-Err-enter : goal.returns-in-Err-enter
returns-in-Err-enter c =
    let s = c.args.session.now in
    let e = c.in-Ok.entry in
    let cell = cell_of c.args.cell.now in
    let value = value_of c.args.value.now in
    let named = (rw c.book.ensures at c.in-Ok.ensures).0 in
    let needs = entering_needs s c.enter.new.self c.args.notes.now e cell value c.enter.result c.in-Err-enter.refused _ named c.in-Err-enter.is c.enter.ensures.standing in
    entry_told s c.enter.new.self c.args.notes.now (asks_enter cell value) (entered s.sheet e) e.cell c.in-Err-enter.refused c.tell_refused.new.notes c.tell_refused.result c.tell_refused.ensures needs c.in-Err-enter.ensures.refused c.in-Err-enter.ensures.unchanged.0
