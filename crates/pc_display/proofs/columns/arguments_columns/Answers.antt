use Rattle.std.proofs.Common.{◌≡◌, ◌++◌, ap, arith, codes}
use Rattle.pc_writer.specs.Spelling.{application_of, arguments_text, joined, value_texts}
use Rattle.pc_writer.proofs.CellLemmas as cell
use Rattle.pc_display.specs.Grid.{columns}
use Rattle.pc_display.proofs.Spelled.{cell_values_utf8, joined_utf8}
use Rattle.pc_display.proofs.Widths.{in_parentheses, no_arguments}
use Rattle.pc_display.proofs.columns.arguments_columns.Goals as goal

pub returns-then-is_empty-clause-exact : goal.returns-then-is_empty-clause-exact
returns-then-is_empty-clause-exact c =
    let u = c.args.book.now.universe in
    no_arguments u c.args.sorts.now (application_of u c.args.cell).arguments c.is_empty.result c.is_empty.ensures c.if-is_empty.true

pub returns-else-is_empty-clause-exact : goal.returns-else-is_empty-clause-exact
returns-else-is_empty-clause-exact c =
    let u = c.args.book.now.universe in
    let vs = (application_of u c.args.cell).arguments in
    let texts = value_texts u c.args.sorts.now vs in
    let text : arguments_text u c.args.sorts.now vs ≡ codes "(" ++ (joined (codes ", ") texts ++ codes ")") = cell.in_parentheses (codes ", ") u c.args.sorts.now vs c.is_empty.result c.is_empty.ensures c.if-is_empty.false in
    let utf8 = joined_utf8 texts (cell_values_utf8 u c.requires.formed.universe c.args.cell c.requires.cell c.args.sorts.now c.requires.sorts) in
    omega (arith, ap columns text, in_parentheses (joined (codes ", ") texts) utf8, c.list_columns.ensures.exact)
