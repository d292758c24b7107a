use Rattle.std.proofs.Common.{◌≡◌, [], ◌∙◌}
use Rattle.pc_sheet.specs.Sheet.{Family}
use Rattle.pc_writer.proofs.Names.{at_place}
use Rattle.pc_writer.proofs.InTurn.{Writes-same}
use Rattle.pc_writer.proofs.declared.write_family_name.Goals as goal

pub returns : goal.returns
returns g c =
    let u = c.args.book.now.universe in
    let none : Family = record { name = []; sorts = []; result_sort = record { 0 = 0 } } in
    Writes-same (c.as_bytes.ensures.value ∙ at_place u.families c.args.family.0 none (λ declared. c.family_name.result.now ≡ declared.name) c.family_name.ensures) c.write_text.ensures
