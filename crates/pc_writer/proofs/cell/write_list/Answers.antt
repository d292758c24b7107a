use Rattle.std.proofs.Common.{arith}
use Rattle.pc_writer.specs.Spelling.{application_of, value_texts}
use Rattle.pc_writer.proofs.CellLemmas.{argument_there, argument_fits, argument_text_is, length-value_texts}
use Rattle.pc_writer.proofs.Joined.{cut_in_separator, cut_in_text, one_more_text, all_texts}
use Rattle.pc_writer.proofs.cell.write_list.Goals as goal

pub cell_arg-value-requires-clause-argument : goal.cell_arg-value-requires-clause-argument
cell_arg-value-requires-clause-argument g c = argument_there c.args.book.now.universe c.args.cell c.requires.cell c.args.sorts.now c.loop-i.i c.requires.sorts (omega arith)

pub write_value-requires : goal.write_value-requires
write_value-requires g c =
    argument_fits c.args.book.now.universe c.args.cell c.requires.cell c.args.sorts.now c.loop-i.i c.cell_arg-value.result c.requires.sorts (omega arith) c.cell_arg-value.ensures

pub returns-in_err-write_between : goal.returns-in_err-write_between
returns-in_err-write_between g c =
    let u = c.args.book.now.universe in
    let is = argument_text_is u c.args.cell c.requires.cell c.args.sorts.now c.loop-i.i c.cell_arg-value.result (omega arith) c.cell_arg-value.ensures in
    cut_in_separator c.args.separator.now (value_texts u c.args.sorts.now (application_of u c.args.cell).arguments) c.loop-i.i _ is c.loop-i.invariant c.from_residual.result c.from_residual.ensures.0 c.in_err-write_between.ensures

pub returns-in_err-write_value : goal.returns-in_err-write_value
returns-in_err-write_value g c =
    let u = c.args.book.now.universe in
    let is = argument_text_is u c.args.cell c.requires.cell c.args.sorts.now c.loop-i.i c.cell_arg-value.result (omega arith) c.cell_arg-value.ensures in
    cut_in_text c.args.separator.now (value_texts u c.args.sorts.now (application_of u c.args.cell).arguments) c.loop-i.i _ is c.loop-i.invariant c.in_ok-write_between.ensures c.from_residual-in_err-write_value.result c.from_residual-in_err-write_value.ensures.0 c.in_err-write_value.ensures

pub loop-i-preserved : goal.loop-i-preserved
loop-i-preserved g c =
    let u = c.args.book.now.universe in
    let is = argument_text_is u c.args.cell c.requires.cell c.args.sorts.now c.loop-i.i c.cell_arg-value.result (omega arith) c.cell_arg-value.ensures in
    one_more_text c.args.separator.now (value_texts u c.args.sorts.now (application_of u c.args.cell).arguments) c.loop-i.i _ is c.loop-i.invariant c.in_ok-write_between.ensures c.in_ok-write_value.ensures

pub returns : goal.returns
returns g c =
    let u = c.args.book.now.universe in
    let arguments = (application_of u c.args.cell).arguments in
    all_texts c.args.separator.now (value_texts u c.args.sorts.now arguments) c.loop-i.i (omega (arith, length-value_texts u c.args.sorts.now arguments)) c.loop-i.invariant
