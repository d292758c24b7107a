use Rattle.std.proofs.Common.{◌∙◌, ap, arith, codes, length, sym}
use Rattle.std.proofs.lemmas.List.{take_all}
use Rattle.pc_writer.specs.Spelling.{application_of, joined, value_texts}
use Rattle.pc_writer.proofs.CellLemmas.{argument_there, argument_fits, argument_text_is, length-value_texts}
use Rattle.pc_display.specs.Grid.{columns}
use Rattle.pc_display.proofs.Spelled.{cell_values_utf8, few_arguments}
use Rattle.pc_display.proofs.Widths.{columns_nil, next_columns}
use Rattle.pc_display.proofs.columns.list_columns.Goals as goal

pub loop-i-init : goal.loop-i-init
loop-i-init c = (sym columns_nil, omega arith)

pub cell_arg-value-requires-clause-argument : goal.cell_arg-value-requires-clause-argument
cell_arg-value-requires-clause-argument c = argument_there c.args.book.now.universe c.args.cell c.requires.cell c.args.sorts.now c.loop-i.i c.requires.sorts (omega arith)

pub value_columns-requires-clause-value : goal.value_columns-requires-clause-value
value_columns-requires-clause-value c =
    argument_fits c.args.book.now.universe c.args.cell c.requires.cell c.args.sorts.now c.loop-i.i c.cell_arg-value.result c.requires.sorts (omega arith) c.cell_arg-value.ensures

pub overflow_add-total-in-loop-i : goal.overflow_add-total-in-loop-i
overflow_add-total-in-loop-i c =
    let u = c.args.book.now.universe in
    omega (arith, few_arguments u c.requires.formed.universe c.args.cell c.requires.cell, ap length c.requires.sorts, c.loop-i.invariant.1, c.separator_columns.ensures.few, c.value_columns.ensures.few)

pub loop-i-preserved : goal.loop-i-preserved
loop-i-preserved c =
    let u = c.args.book.now.universe in
    let texts = value_texts u c.args.sorts.now (application_of u c.args.cell).arguments in
    let is = argument_text_is u c.args.cell c.requires.cell c.args.sorts.now c.loop-i.i c.cell_arg-value.result (omega arith) c.cell_arg-value.ensures in
    let next = next_columns texts c.loop-i.i _ (cell_values_utf8 u c.requires.formed.universe c.args.cell c.requires.cell c.args.sorts.now c.requires.sorts) is in (
      omega (arith, next, c.loop-i.invariant.0, c.separator_columns.ensures.exact, c.value_columns.ensures.exact),
      omega (arith, c.loop-i.invariant.1, c.separator_columns.ensures.few, c.value_columns.ensures.few),
    )

pub returns-clause-exact : goal.returns-clause-exact
returns-clause-exact c =
    let u = c.args.book.now.universe in
    let arguments = (application_of u c.args.cell).arguments in
    let texts = value_texts u c.args.sorts.now arguments in
    c.loop-i.invariant.0 ∙ ap (λ ts. columns (joined (codes ", ") ts)) (take_all c.loop-i.i texts (omega (arith, length-value_texts u c.args.sorts.now arguments)))

pub returns-clause-few : goal.returns-clause-few
returns-clause-few c =
    let u = c.args.book.now.universe in
    omega (arith, few_arguments u c.requires.formed.universe c.args.cell c.requires.cell, ap length c.requires.sorts, c.loop-i.invariant.1, c.loop-i.auto.i-end)
