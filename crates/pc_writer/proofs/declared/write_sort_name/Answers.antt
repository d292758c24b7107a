use Rattle.std.proofs.Common.{◌≡◌, [], ◌∙◌}
use Rattle.pc_sheet.specs.Sheet.{Sort, listed}
use Rattle.pc_writer.proofs.Names.{at_place}
use Rattle.pc_writer.proofs.InTurn.{Writes-same}
use Rattle.pc_writer.proofs.declared.write_sort_name.Goals as goal

pub returns : goal.returns
returns g c =
    let u = c.args.book.now.universe in
    let none : Sort = record { name = []; values = listed [] } in
    Writes-same (c.as_bytes.ensures.value ∙ at_place u.sorts c.args.sort.0 none (λ declared. c.sort_name.result.now ≡ declared.name) c.sort_name.ensures) c.write_text.ensures
