use Rattle.std.proofs.Common.{refl, sym, true}
use Rattle.pc_syntax.specs.Tree.{asks_whynot, cell_of, value_of}
use Rattle.pc_sheet.specs.declared.ids.Target.{Target}
use Rattle.pc_spreadsheet.specs.Commands.{state_of}
use Rattle.pc_spreadsheet.proofs.Ample.{entry_ample}
use Rattle.pc_spreadsheet.proofs.Telling.{refused_for}
use Rattle.pc_spreadsheet.proofs.Proving.{many_to_doubt, doubted_so}
use Rattle.pc_spreadsheet.proofs.repairs.why_not.Goals as goal

pub returns-in-Err : goal.returns-in-Err
returns-in-Err c =
    let cell = cell_of c.args.cell.now in
    let value = value_of c.args.value.now in
    refused_for (state_of c.args.session.now, c.args.notes.now) c.book.result.now (asks_whynot cell value) c.in-Err.fault c.refuse.result (sym c.book.ensures) (entry_ample c.book.result.now.universe cell value) c.in-Err.ensures c.refuse.ensures

pub returns-in-Ok-Some : goal.returns-in-Ok-Some
returns-in-Ok-Some c =
    let named = (rw c.book.ensures at c.in-Ok.ensures).0 in
    let t : Target = record { cell = c.in-Ok.entry.cell; value = c.in-Ok.entry.value; holds = true } in
    doubted_so c.args.session.now c.args.notes.now c.doubt.new.notes c.doubt.result c.in-Ok-Some.sets (cell_of c.args.cell.now) (value_of c.args.value.now) t (rw c.in-Ok-Some.field-0-is at c.in-Ok-Some.ensures) named refl c.doubt.ensures

pub returns-in-Ok-None : goal.returns-in-Ok-None
returns-in-Ok-None c =
    let named = (rw c.book.ensures at c.in-Ok.ensures).0 in
    many_to_doubt (state_of c.args.session.now, c.args.notes.now) (cell_of c.args.cell.now) (value_of c.args.value.now) c.in-Ok.entry named (rw c.in-Ok-None.field-0-is at c.in-Ok-None.ensures)

pub returns-in-Err-whole : goal.returns-in-Err-whole
returns-in-Err-whole c =
    let named = (rw c.book.ensures at c.in-Ok.ensures).0 in
    ((c.in-Ok.entry, named), refl)
