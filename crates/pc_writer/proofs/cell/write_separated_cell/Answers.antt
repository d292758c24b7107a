use Rattle.std.proofs.Common.{◌∙◌, ap}
use Rattle.pc_sheet.specs.Sizes.{argument_sorts}
use Rattle.pc_writer.specs.Spelling.{application_of, family_of, separated_arguments}
use Rattle.pc_writer.proofs.CellLemmas.{cell_name_is, cell_sorts_are, family_there}
use Rattle.pc_writer.proofs.InTurn.{Writes-then, Writes-cut, Writes-same}
use Rattle.pc_writer.proofs.cell.write_separated_cell.Goals as goal

pub family_name-requires : goal.family_name-requires
family_name-requires g c = family_there c.args.book.now.universe c.args.cell c.requires c.cell_family-family.result c.cell_family-family.ensures

pub family_sorts-requires : goal.family_sorts-requires
family_sorts-requires g c = family_there c.args.book.now.universe c.args.cell c.requires c.cell_family-family.result c.cell_family-family.ensures

pub write_arguments-requires-clause-sorts : goal.write_arguments-requires-clause-sorts
write_arguments-requires-clause-sorts g c =
    cell_sorts_are c.args.book.now.universe c.args.cell c.requires c.cell_family-family.result c.cell_family-family.ensures c.family_sorts.result.now c.family_sorts.ensures

pub returns-in_err-write_text : goal.returns-in_err-write_text
returns-in_err-write_text g c =
    let u = c.args.book.now.universe in
    let name = c.as_bytes.ensures.value ∙ cell_name_is u c.args.cell c.requires c.cell_family-family.result c.cell_family-family.ensures c.family_name.result.now c.family_name.ensures in
    Writes-cut c.from_residual.result (separated_arguments c.args.separator.now u (argument_sorts (family_of u c.args.cell)) (application_of u c.args.cell).arguments) c.from_residual.ensures.0 (Writes-same name c.in_err-write_text.ensures)

pub returns : goal.returns
returns g c =
    let u = c.args.book.now.universe in
    let name = c.as_bytes.ensures.value ∙ cell_name_is u c.args.cell c.requires c.cell_family-family.result c.cell_family-family.ensures c.family_name.result.now c.family_name.ensures in
    let sorts = cell_sorts_are u c.args.cell c.requires c.cell_family-family.result c.cell_family-family.ensures c.family_sorts.result.now c.family_sorts.ensures in
    Writes-then (Writes-same name c.in_ok-write_text.ensures) (Writes-same (ap (λ ss. separated_arguments c.args.separator.now u ss (application_of u c.args.cell).arguments) sorts) c.write_arguments.ensures)
