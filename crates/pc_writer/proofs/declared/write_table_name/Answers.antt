use Rattle.std.proofs.Common.{◌≡◌, [], ◌∙◌}
use Rattle.pc_sheet.specs.Sheet.{Table}
use Rattle.pc_writer.proofs.Names.{at_place}
use Rattle.pc_writer.proofs.InTurn.{Writes-same}
use Rattle.pc_writer.proofs.declared.write_table_name.Goals as goal

pub returns : goal.returns
returns g c =
    let u = c.args.book.now.universe in
    let none : Table = record { name = []; sorts = []; rows = [] } in
    Writes-same (c.as_bytes.ensures.value ∙ at_place u.tables c.args.table.0 none (λ declared. c.table_name.result.now ≡ declared.name) c.table_name.ensures) c.write_text.ensures
