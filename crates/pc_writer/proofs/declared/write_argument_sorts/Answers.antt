use Rattle.std.proofs.Common.{sym, map}
use Rattle.std.proofs.lemmas.List.{length-map}
use Rattle.pc_writer.specs.FormulaText.{sort_name}
use Rattle.pc_writer.proofs.Names.{in_parentheses-some}
use Rattle.pc_writer.proofs.InTurn.{Writes-then, Writes-cut, Writes-same}
use Rattle.pc_writer.proofs.declared.write_argument_sorts.Goals as goal

pub returns-in_err-write_text : goal.returns-in_err-write_text
returns-in_err-write_text g c =
    let u = c.args.book.now.universe in
    let text = in_parentheses-some c.args.sorts.now (map (sort_name u) c.args.sorts.now) (length-map c.args.sorts.now (sort_name u)) c.is_empty.result c.is_empty.ensures c.if-is_empty.false in
    Writes-same (sym (text)) (Writes-cut c.from_residual.result _ c.from_residual.ensures.0 c.in_err-write_text.ensures)

pub returns-in_err-write_sort_names : goal.returns-in_err-write_sort_names
returns-in_err-write_sort_names g c =
    let u = c.args.book.now.universe in
    let text = in_parentheses-some c.args.sorts.now (map (sort_name u) c.args.sorts.now) (length-map c.args.sorts.now (sort_name u)) c.is_empty.result c.is_empty.ensures c.if-is_empty.false in
    Writes-same (sym (text)) (Writes-then c.in_ok-write_text.ensures (Writes-cut c.from_residual-in_err-write_sort_names.result _ c.from_residual-in_err-write_sort_names.ensures.0 c.in_err-write_sort_names.ensures))

pub returns : goal.returns
returns g c =
    let u = c.args.book.now.universe in
    let text = in_parentheses-some c.args.sorts.now (map (sort_name u) c.args.sorts.now) (length-map c.args.sorts.now (sort_name u)) c.is_empty.result c.is_empty.ensures c.if-is_empty.false in
    Writes-same (sym (text)) (Writes-then c.in_ok-write_text.ensures (Writes-then c.in_ok-write_sort_names.ensures c.write_text-2.ensures))
