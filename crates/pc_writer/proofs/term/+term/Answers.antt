use Rattle.std.proofs.Common.{sym, map, ap, ◌∙◌, arith, rules, subst, codes, Some, length, ◌<◌}
use denote.Param.Weighed.{at_most}
use Rattle.pc_sheet.specs.Views.{item_of, items_of}
use Rattle.pc_writer.specs.FormulaText.{in_parentheses, item_text, item_texts}
use Rattle.pc_writer.specs.inside.Scope.{variables_of}
use Rattle.pc_writer.specs.inside.Writable.{IsWritable}
use Rattle.pc_writer.proofs.Names.{in_parentheses-some}
use Rattle.pc_writer.proofs.Items.{length-item_texts, item_text_at, writable_at, item_of-Cell, item_of-Variable, variable_name_at}
use Rattle.pc_writer.proofs.InTurn.{Writes-then, Writes-cut, Writes-same}
use Rattle.pc_writer.proofs.Joined.{cut_in_separator, cut_in_text, one_more_text, all_texts}
use Rattle.pc_writer.proofs.term.+term.Goals as goal

pub write_arguments-returns-in_err-write_text : goal.write_arguments-returns-in_err-write_text
write_arguments-returns-in_err-write_text g t c =
    let u = c.args.book.now.universe in
    let vs = variables_of c.args.variables.now in
    let text = in_parentheses-some c.args.terms.now (item_texts u vs (items_of (map item_of c.args.terms.now))) (length-item_texts u vs c.args.terms.now) c.is_empty.result c.is_empty.ensures c.if-is_empty.false in
    Writes-same (sym (text)) (Writes-cut c.from_residual.result _ c.from_residual.ensures.0 c.in_err-write_text.ensures)

pub write_arguments-returns-in_err-write_terms : goal.write_arguments-returns-in_err-write_terms
write_arguments-returns-in_err-write_terms g t c =
    let u = c.args.book.now.universe in
    let vs = variables_of c.args.variables.now in
    let text = in_parentheses-some c.args.terms.now (item_texts u vs (items_of (map item_of c.args.terms.now))) (length-item_texts u vs c.args.terms.now) c.is_empty.result c.is_empty.ensures c.if-is_empty.false in
    Writes-same (sym (text)) (Writes-then c.in_ok-write_text.ensures (Writes-cut c.from_residual-in_err-write_terms.result _ c.from_residual-in_err-write_terms.ensures.0 c.in_err-write_terms.ensures))

pub write_arguments-returns : goal.write_arguments-returns
write_arguments-returns g t c =
    let u = c.args.book.now.universe in
    let vs = variables_of c.args.variables.now in
    let text = in_parentheses-some c.args.terms.now (item_texts u vs (items_of (map item_of c.args.terms.now))) (length-item_texts u vs c.args.terms.now) c.is_empty.result c.is_empty.ensures c.if-is_empty.false in
    Writes-same (sym (text)) (Writes-then c.in_ok-write_text.ensures (Writes-then c.in_ok-write_terms.ensures c.write_text-2.ensures))

pub write_term-returns-in_err-write_family_name-in-Cell : goal.write_term-returns-in_err-write_family_name-in-Cell
write_term-returns-in_err-write_family_name-in-Cell g t c =
    let u = c.args.book.now.universe in
    let vs = variables_of c.args.variables.now in
    let text = ap (λ t. item_text u vs (item_of t)) c.in-Cell.is ∙ ap (item_text u vs) (item_of-Cell c.in-Cell.family c.in-Cell.args) in
    Writes-same (sym text) (Writes-cut c.from_residual.result _ c.from_residual.ensures.0 c.in_err-write_family_name-in-Cell.ensures)

pub write_term-returns-in_ok-write_family_name-in-Cell : goal.write_term-returns-in_ok-write_family_name-in-Cell
write_term-returns-in_ok-write_family_name-in-Cell g t c =
    let u = c.args.book.now.universe in
    let vs = variables_of c.args.variables.now in
    let text = ap (λ t. item_text u vs (item_of t)) c.in-Cell.is ∙ ap (item_text u vs) (item_of-Cell c.in-Cell.family c.in-Cell.args) in
    let arguments = ap (λ ts. in_parentheses (item_texts u vs (items_of (map item_of ts)))) c.deref.ensures.value in
    Writes-same (sym text) (Writes-then c.in_ok-write_family_name-in-Cell.ensures (Writes-same arguments c.write_arguments.ensures))

pub write_term-returns-in-Variable : goal.write_term-returns-in-Variable
write_term-returns-in-Variable g t c =
    let u = c.args.book.now.universe in
    let vs = variables_of c.args.variables.now in
    let k = c.in-Variable.k in
    let n = length c.args.variables.now in
    let text = ap (λ t. item_text u vs (item_of t)) c.in-Variable.is ∙ ap (item_text u vs) (item_of-Variable k) in
    let below : k < n = subst (IsWritable u n) (ap item_of c.in-Variable.is ∙ item_of-Variable k) c.requires in
    let name = rw c.from.ensures at c.as_bytes.ensures.value in
    Writes-same (name ∙ sym (variable_name_at c.args.variables.now k _ below) ∙ sym text) c.write_text.ensures

pub write_terms-returns-in_err-write_separator : goal.write_terms-returns-in_err-write_separator
write_terms-returns-in_err-write_separator g t c =
    let u = c.args.book.now.universe in
    let vs = variables_of c.args.variables.now in
    let is = item_text_at u vs c.args.terms.now c.loop-i.i c.index-terms-i.result (omega arith) ∙ ap (λ t. Some (item_text u vs (item_of t))) (sym c.index-terms-i.is) in
    cut_in_separator (codes ", ") (item_texts u vs (items_of (map item_of c.args.terms.now))) c.loop-i.i _ is c.loop-i.invariant c.from_residual.result c.from_residual.ensures.0 c.in_err-write_separator.ensures

pub write_terms-returns-in_err-write_term : goal.write_terms-returns-in_err-write_term
write_terms-returns-in_err-write_term g t c =
    let u = c.args.book.now.universe in
    let vs = variables_of c.args.variables.now in
    let is = item_text_at u vs c.args.terms.now c.loop-i.i c.index-terms-i.result (omega arith) ∙ ap (λ t. Some (item_text u vs (item_of t))) (sym c.index-terms-i.is) in
    cut_in_text (codes ", ") (item_texts u vs (items_of (map item_of c.args.terms.now))) c.loop-i.i _ is c.loop-i.invariant c.in_ok-write_separator.ensures c.from_residual-in_err-write_term.result c.from_residual-in_err-write_term.ensures.0 c.in_err-write_term.ensures

pub write_terms-loop-i-preserved : goal.write_terms-loop-i-preserved
write_terms-loop-i-preserved g t c =
    let u = c.args.book.now.universe in
    let vs = variables_of c.args.variables.now in
    let is = item_text_at u vs c.args.terms.now c.loop-i.i c.index-terms-i.result (omega arith) ∙ ap (λ t. Some (item_text u vs (item_of t))) (sym c.index-terms-i.is) in
    one_more_text (codes ", ") (item_texts u vs (items_of (map item_of c.args.terms.now))) c.loop-i.i _ is c.loop-i.invariant c.in_ok-write_separator.ensures c.in_ok-write_term.ensures

pub write_terms-returns : goal.write_terms-returns
write_terms-returns g t c =
    let u = c.args.book.now.universe in
    let vs = variables_of c.args.variables.now in
    all_texts (codes ", ") (item_texts u vs (items_of (map item_of c.args.terms.now))) c.loop-i.i (omega (arith, length-item_texts u vs c.args.terms.now)) c.loop-i.invariant

pub write_terms-write_term-requires : goal.write_terms-write_term-requires
write_terms-write_term-requires g t c =
    let u = c.args.book.now.universe in
    let n = length c.args.variables.now in
    let fact : IsWritable u n (item_of c.index-terms-i.result) = subst (λ t. IsWritable u n (item_of t)) (sym c.index-terms-i.is) (writable_at u n c.args.terms.now c.loop-i.i c.index-terms-i.result (omega arith) c.requires) in
    search (rules, at_most, fact)
