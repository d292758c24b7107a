use Rattle.std.proofs.Common.{sym}
use Rattle.pc_syntax.specs.Tree.{asks_also, cell_of, value_of}
use Rattle.pc_books.specs.Edits.{also_entered}
use Rattle.pc_spreadsheet.specs.Allowed.{to_enter_beside}
use Rattle.pc_spreadsheet.specs.Commands.{state_of}
use Rattle.pc_spreadsheet.proofs.Ample.{further_ample}
use Rattle.pc_spreadsheet.proofs.Telling.{refused_for}
use Rattle.pc_spreadsheet.proofs.Editing.{entered_beside_so, room_beside, entry_told, entry_lawful}
use Rattle.pc_spreadsheet.proofs.edits.enter_beside.Goals as goal

pub returns-in-Err : goal.returns-in-Err
returns-in-Err c =
    let cell = cell_of c.args.cell.now in
    let value = value_of c.args.value.now in
    refused_for (state_of c.args.session.now, c.args.notes.now) c.book.result.now (asks_also cell value) c.in-Err.fault c.refuse.result (sym c.book.ensures) (further_ample c.book.result.now cell value) c.in-Err.ensures c.refuse.ensures

pub returns-in-Ok-also : goal.returns-in-Ok-also
returns-in-Ok-also c =
    let found = rw c.book.ensures at c.in-Ok.ensures in
    entered_beside_so c.args.session.now c.also.new.self c.args.notes.now c.in-Ok.entry (cell_of c.args.cell.now) (value_of c.args.value.now) found.0 found.2 c.in-Ok-also.ensures.sheet c.also.ensures.budget

pub tell_refused-requires : goal.tell_refused-requires
tell_refused-requires c = entry_lawful c.args.session.now c.also.new.self c.args.notes.now (also_entered c.args.session.now.sheet c.in-Ok.entry) c.in-Ok.entry.cell c.in-Err-also.refused c.in-Err-also.ensures.refused

pub returns-in-Err-also : goal.returns-in-Err-also
returns-in-Err-also c =
    let s = c.args.session.now in
    let e = c.in-Ok.entry in
    let found = rw c.book.ensures at c.in-Ok.ensures in
    let room = room_beside s c.also.new.self c.args.notes.now e c.also.result c.in-Err-also.refused _ found.1 found.2 c.in-Err-also.is c.also.ensures.standing in
    entry_told s c.also.new.self c.args.notes.now (asks_also (cell_of c.args.cell.now) (value_of c.args.value.now)) (also_entered s.sheet e) e.cell c.in-Err-also.refused c.tell_refused.new.notes c.tell_refused.result c.tell_refused.ensures (to_enter_beside e found.0 room) c.in-Err-also.ensures.refused c.in-Err-also.ensures.unchanged.0
