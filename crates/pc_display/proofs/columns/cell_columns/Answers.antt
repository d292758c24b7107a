use Rattle.std.proofs.Common.{◌≡◌, ◌∙◌, ap, arith}
use Rattle.pc_sheet.specs.Sizes.{argument_sorts}
use Rattle.pc_writer.specs.Spelling.{application_of, arguments_text, family_of, name_of}
use Rattle.pc_writer.proofs.CellLemmas.{cell_sorts_are, family_there}
use Rattle.pc_display.specs.Grid.{columns}
use Rattle.pc_display.proofs.Spelled.{cell_name_utf8}
use Rattle.pc_display.proofs.Widths.{name_and_arguments}
use Rattle.pc_display.proofs.columns.cell_columns.Goals as goal

pub family_sorts-requires : goal.family_sorts-requires
family_sorts-requires c = family_there c.args.book.now.universe c.args.cell c.requires.cell c.cell_family-family.result c.cell_family-family.ensures

pub overflow_add-result : goal.overflow_add-result
overflow_add-result c = omega (arith, c.requires.name.few, c.arguments_columns.ensures.few)

pub returns : goal.returns
returns c =
    let u = c.args.book.now.universe in
    let vs = (application_of u c.args.cell).arguments in
    let sorts = cell_sorts_are u c.args.cell c.requires.cell c.cell_family-family.result c.cell_family-family.ensures c.family_sorts.result.now c.family_sorts.ensures in
    let more : c.arguments_columns.result ≡ columns (arguments_text u (argument_sorts (family_of u c.args.cell)) vs) = c.arguments_columns.ensures.exact ∙ ap (λ ss. columns (arguments_text u ss vs)) sorts in
    omega (arith, c.requires.name.exact, more, name_and_arguments u (name_of (family_of u c.args.cell)) (argument_sorts (family_of u c.args.cell)) vs (cell_name_utf8 u c.requires.formed.universe c.args.cell c.requires.cell))
