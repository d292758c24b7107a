use Rattle.std.proofs.Common.{refl}
use Rattle.pc_syntax.specs.Tree.{asks_why, cell_of, value_of}
use Rattle.pc_sheet.specs.declared.ids.Target.{Target}
use Rattle.pc_spreadsheet.specs.Tasks.{asking}
use Rattle.pc_spreadsheet.specs.Commands.{by_page}
use Rattle.pc_spreadsheet.proofs.Ample.{entry_ample}
use Rattle.pc_spreadsheet.proofs.Telling.{not_explained}
use Rattle.pc_spreadsheet.proofs.commands.answer_why.Goals as goal

pub returns-in-Ok : goal.returns-in-Ok
returns-in-Ok c =
    let t : Target = record { cell = c.in-Ok.entry.cell; value = c.in-Ok.entry.value; holds = c.args.holds } in
    by_page t (asking t c.in-Ok.ensures.0 refl) c.in-Ok.ensures.1

pub returns-in-Err : goal.returns-in-Err
returns-in-Err c = not_explained c.args.book.now (asks_why (cell_of c.args.cell.now) (value_of c.args.value.now) c.args.holds) c.in-Err.fault c.refuse.result (entry_ample c.args.book.now.universe (cell_of c.args.cell.now) (value_of c.args.value.now)) c.in-Err.ensures c.refuse.ensures
