use Rattle.std.proofs.Common.{◌++◌, codes, sym}
use Rattle.pc_writer.specs.Spelling.{application_of, joined, value_texts}
use Rattle.pc_writer.proofs.CellLemmas.{in_parentheses}
use Rattle.pc_writer.proofs.InTurn.{Writes-then, Writes-cut, Writes-same}
use Rattle.pc_writer.proofs.cell.write_arguments.Goals as goal

pub returns-in_err-write_text : goal.returns-in_err-write_text
returns-in_err-write_text g c =
    let u = c.args.book.now.universe in
    let vs = (application_of u c.args.cell).arguments in
    let text = in_parentheses c.args.separator.now u c.args.sorts.now vs c.is_empty.result c.is_empty.ensures c.if-is_empty.false in
    Writes-same (sym text) (Writes-cut c.from_residual.result (joined c.args.separator.now (value_texts u c.args.sorts.now vs) ++ codes ")") c.from_residual.ensures.0 c.in_err-write_text.ensures)

pub returns-in_err-write_list : goal.returns-in_err-write_list
returns-in_err-write_list g c =
    let u = c.args.book.now.universe in
    let text = in_parentheses c.args.separator.now u c.args.sorts.now (application_of u c.args.cell).arguments c.is_empty.result c.is_empty.ensures c.if-is_empty.false in
    Writes-same (sym text) (Writes-then c.in_ok-write_text.ensures (Writes-cut c.from_residual-in_err-write_list.result (codes ")") c.from_residual-in_err-write_list.ensures.0 c.in_err-write_list.ensures))

pub returns : goal.returns
returns g c =
    let u = c.args.book.now.universe in
    let text = in_parentheses c.args.separator.now u c.args.sorts.now (application_of u c.args.cell).arguments c.is_empty.result c.is_empty.ensures c.if-is_empty.false in
    Writes-same (sym text) (Writes-then c.in_ok-write_text.ensures (Writes-then c.in_ok-write_list.ensures c.write_text-2.ensures))
