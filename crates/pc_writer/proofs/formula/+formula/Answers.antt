use Rattle.std.proofs.Common.{sym, ap, ◌∙◌, map, arith, rules, subst, Some, length, [], ◌∷◌, ◌++◌}
use denote.Param.Weighed.{at_most}
use Rattle.pc_sheet.specs.Views.{item_of, items_of, statement_of, statements_of}
use Rattle.pc_sheet.specs.WellSorted.{IsWellSorted}
use Rattle.pc_writer.specs.FormulaText.{statement_text, part_text, part_texts}
use Rattle.pc_writer.specs.inside.Scope.{variables_of}
use Rattle.pc_writer.specs.inside.Writable.{AreWritable}
use Rattle.pc_writer.proofs.Statements.{in_brackets, part_text_at, length-part_texts, sorted_at, sides_writable, arguments_writable, of_Not, of_Implies, of_Iff, of_ForAll, of_Exists, of_Count}
use Rattle.pc_writer.proofs.InTurn.{Writes-then, Writes-cut, Writes-same}
use Rattle.pc_writer.proofs.Joined.{cut_in_separator, cut_in_text, one_more_text, all_texts}
use Rattle.pc_writer.proofs.formula.+formula.Goals as goal

pub write_part-returns-in_err-write_text : goal.write_part-returns-in_err-write_text
write_part-returns-in_err-write_text g t c =
    let u = c.args.book.now.universe in
    let s = statement_of c.args.part.now in
    let text = in_brackets c.args.asked s (statement_text u (variables_of c.args.variables.now) s) (omega (arith, c.tightness.ensures)) in
    Writes-same (sym (text)) (Writes-cut c.from_residual.result _ c.from_residual.ensures.0 c.in_err-write_text.ensures)

pub write_part-returns-in_err-write_formula : goal.write_part-returns-in_err-write_formula
write_part-returns-in_err-write_formula g t c =
    let u = c.args.book.now.universe in
    let s = statement_of c.args.part.now in
    let text = in_brackets c.args.asked s (statement_text u (variables_of c.args.variables.now) s) (omega (arith, c.tightness.ensures)) in
    Writes-same (sym (text)) (Writes-then c.in_ok-write_text.ensures (Writes-cut c.from_residual-in_err-write_formula.result _ c.from_residual-in_err-write_formula.ensures.0 c.in_err-write_formula.ensures))

pub write_part-returns : goal.write_part-returns
write_part-returns g t c =
    let u = c.args.book.now.universe in
    let s = statement_of c.args.part.now in
    let text = in_brackets c.args.asked s (statement_text u (variables_of c.args.variables.now) s) (omega (arith, c.tightness.ensures)) in
    Writes-same (sym (text)) (Writes-then c.in_ok-write_text.ensures (Writes-then c.in_ok-write_formula.ensures c.write_text-2.ensures))

pub write_parts-returns-in_err-write_between : goal.write_parts-returns-in_err-write_between
write_parts-returns-in_err-write_between g t c =
    let u = c.args.book.now.universe in
    let vs = variables_of c.args.variables.now in
    let is = part_text_at u vs c.args.asked c.args.parts.now c.loop-i.i c.index-parts-i.result (omega arith) ∙ ap (λ f. Some (part_text u vs c.args.asked (statement_of f))) (sym c.index-parts-i.is) in
    cut_in_separator c.args.separator.now (part_texts u vs c.args.asked (statements_of (map statement_of c.args.parts.now))) c.loop-i.i _ is c.loop-i.invariant c.from_residual.result c.from_residual.ensures.0 c.in_err-write_between.ensures

pub write_parts-returns-in_err-write_part : goal.write_parts-returns-in_err-write_part
write_parts-returns-in_err-write_part g t c =
    let u = c.args.book.now.universe in
    let vs = variables_of c.args.variables.now in
    let is = part_text_at u vs c.args.asked c.args.parts.now c.loop-i.i c.index-parts-i.result (omega arith) ∙ ap (λ f. Some (part_text u vs c.args.asked (statement_of f))) (sym c.index-parts-i.is) in
    cut_in_text c.args.separator.now (part_texts u vs c.args.asked (statements_of (map statement_of c.args.parts.now))) c.loop-i.i _ is c.loop-i.invariant c.in_ok-write_between.ensures c.from_residual-in_err-write_part.result c.from_residual-in_err-write_part.ensures.0 c.in_err-write_part.ensures

pub write_parts-loop-i-preserved : goal.write_parts-loop-i-preserved
write_parts-loop-i-preserved g t c =
    let u = c.args.book.now.universe in
    let vs = variables_of c.args.variables.now in
    let is = part_text_at u vs c.args.asked c.args.parts.now c.loop-i.i c.index-parts-i.result (omega arith) ∙ ap (λ f. Some (part_text u vs c.args.asked (statement_of f))) (sym c.index-parts-i.is) in
    one_more_text c.args.separator.now (part_texts u vs c.args.asked (statements_of (map statement_of c.args.parts.now))) c.loop-i.i _ is c.loop-i.invariant c.in_ok-write_between.ensures c.in_ok-write_part.ensures

pub write_parts-returns : goal.write_parts-returns
write_parts-returns g t c =
    let u = c.args.book.now.universe in
    let vs = variables_of c.args.variables.now in
    all_texts c.args.separator.now (part_texts u vs c.args.asked (statements_of (map statement_of c.args.parts.now))) c.loop-i.i (omega (arith, length-part_texts u vs c.args.asked c.args.parts.now)) c.loop-i.invariant

pub write_parts-write_part-requires : goal.write_parts-write_part-requires
write_parts-write_part-requires g t c =
    let u = c.args.book.now.universe in
    let vs = variables_of c.args.variables.now in
    let fact : IsWellSorted u vs (statement_of c.index-parts-i.result) = subst (λ f. IsWellSorted u vs (statement_of f)) (sym c.index-parts-i.is) (sorted_at u vs c.args.parts.now c.loop-i.i c.index-parts-i.result (omega arith) c.requires) in
    search (rules, at_most, fact)

pub write_formula-write_comparison-requires-clause-left : goal.write_formula-write_comparison-requires-clause-left
write_formula-write_comparison-requires-clause-left g t c =
    (sides_writable c.args.book.now.universe c.args.variables.now c.args.formula.now c.in-Compare.left c.in-Compare.op c.in-Compare.right c.in-Compare.is c.requires).0

pub write_formula-write_comparison-requires-clause-right : goal.write_formula-write_comparison-requires-clause-right
write_formula-write_comparison-requires-clause-right g t c =
    (sides_writable c.args.book.now.universe c.args.variables.now c.args.formula.now c.in-Compare.left c.in-Compare.op c.in-Compare.right c.in-Compare.is c.requires).1

pub write_formula-write_in_table-requires-clause-table : goal.write_formula-write_in_table-requires-clause-table
write_formula-write_in_table-requires-clause-table g t c =
    (arguments_writable c.args.book.now.universe c.args.variables.now c.args.formula.now c.in-InTable.table c.in-InTable.args c.in-InTable.is c.requires).0

pub write_formula-write_in_table-requires-clause-args : goal.write_formula-write_in_table-requires-clause-args
write_formula-write_in_table-requires-clause-args g t c =
    let u = c.args.book.now.universe in
    let args = arguments_writable u c.args.variables.now c.args.formula.now c.in-InTable.table c.in-InTable.args c.in-InTable.is c.requires in
    subst (λ ts. AreWritable u (length c.args.variables.now) (items_of (map item_of ts))) (sym c.deref.ensures.value) args.1

pub write_formula-returns-in_err-write_text-in-Not : goal.write_formula-returns-in_err-write_text-in-Not
write_formula-returns-in_err-write_text-in-Not g t c =
    let u = c.args.book.now.universe in
    let vs = variables_of c.args.variables.now in
    let text = ap (λ f. statement_text u vs (statement_of f)) c.in-Not.is ∙ ap (statement_text u vs) (of_Not c.in-Not.part) in
    Writes-same (sym text) (Writes-cut c.from_residual.result _ c.from_residual.ensures.0 c.in_err-write_text-in-Not.ensures)

pub write_formula-returns-in_ok-write_text-in-Not : goal.write_formula-returns-in_ok-write_text-in-Not
write_formula-returns-in_ok-write_text-in-Not g t c =
    let u = c.args.book.now.universe in
    let vs = variables_of c.args.variables.now in
    let text = ap (λ f. statement_text u vs (statement_of f)) c.in-Not.is ∙ ap (statement_text u vs) (of_Not c.in-Not.part) in
    let part = ap (λ f. part_text u vs 5 (statement_of f)) c.deref-in-Not.ensures in
    Writes-same (sym text) (Writes-then c.in_ok-write_text-in-Not.ensures (Writes-same part c.write_part.ensures))

pub write_formula-returns-in_err-write_part-in-Implies : goal.write_formula-returns-in_err-write_part-in-Implies
write_formula-returns-in_err-write_part-in-Implies g t c =
    let u = c.args.book.now.universe in
    let vs = variables_of c.args.variables.now in
    let text = ap (λ f. statement_text u vs (statement_of f)) c.in-Implies.is ∙ ap (statement_text u vs) (of_Implies c.in-Implies.left c.in-Implies.right) in
    let left = ap (λ f. part_text u vs 3 (statement_of f)) c.deref-in-Implies.ensures in
    Writes-same (sym text) (Writes-cut c.from_residual-in_err-write_part-in-Implies.result _ c.from_residual-in_err-write_part-in-Implies.ensures.0 (Writes-same left c.in_err-write_part-in-Implies.ensures))

pub write_formula-returns-in_err-write_text-in-Implies : goal.write_formula-returns-in_err-write_text-in-Implies
write_formula-returns-in_err-write_text-in-Implies g t c =
    let u = c.args.book.now.universe in
    let vs = variables_of c.args.variables.now in
    let text = ap (λ f. statement_text u vs (statement_of f)) c.in-Implies.is ∙ ap (statement_text u vs) (of_Implies c.in-Implies.left c.in-Implies.right) in
    let left = ap (λ f. part_text u vs 3 (statement_of f)) c.deref-in-Implies.ensures in
    Writes-same (sym text) (Writes-then (Writes-same left c.in_ok-write_part-in-Implies.ensures) (Writes-cut c.from_residual-in_err-write_text-in-Implies.result _ c.from_residual-in_err-write_text-in-Implies.ensures.0 c.in_err-write_text-in-Implies.ensures))

pub write_formula-returns-in_ok-write_text-in-Implies : goal.write_formula-returns-in_ok-write_text-in-Implies
write_formula-returns-in_ok-write_text-in-Implies g t c =
    let u = c.args.book.now.universe in
    let vs = variables_of c.args.variables.now in
    let text = ap (λ f. statement_text u vs (statement_of f)) c.in-Implies.is ∙ ap (statement_text u vs) (of_Implies c.in-Implies.left c.in-Implies.right) in
    let left = ap (λ f. part_text u vs 3 (statement_of f)) c.deref-in-Implies.ensures in
    let right = ap (λ f. part_text u vs 2 (statement_of f)) c.deref-in-Implies-2.ensures in
    Writes-same (sym text) (Writes-then (Writes-same left c.in_ok-write_part-in-Implies.ensures) (Writes-then c.in_ok-write_text-in-Implies.ensures (Writes-same right c.write_part-in-Implies-2.ensures)))

pub write_formula-returns-in_err-write_part-in-Iff : goal.write_formula-returns-in_err-write_part-in-Iff
write_formula-returns-in_err-write_part-in-Iff g t c =
    let u = c.args.book.now.universe in
    let vs = variables_of c.args.variables.now in
    let text = ap (λ f. statement_text u vs (statement_of f)) c.in-Iff.is ∙ ap (statement_text u vs) (of_Iff c.in-Iff.left c.in-Iff.right) in
    let left = ap (λ f. part_text u vs 2 (statement_of f)) c.deref-in-Iff.ensures in
    Writes-same (sym text) (Writes-cut c.from_residual-in_err-write_part-in-Iff.result _ c.from_residual-in_err-write_part-in-Iff.ensures.0 (Writes-same left c.in_err-write_part-in-Iff.ensures))

pub write_formula-returns-in_err-write_text-in-Iff : goal.write_formula-returns-in_err-write_text-in-Iff
write_formula-returns-in_err-write_text-in-Iff g t c =
    let u = c.args.book.now.universe in
    let vs = variables_of c.args.variables.now in
    let text = ap (λ f. statement_text u vs (statement_of f)) c.in-Iff.is ∙ ap (statement_text u vs) (of_Iff c.in-Iff.left c.in-Iff.right) in
    let left = ap (λ f. part_text u vs 2 (statement_of f)) c.deref-in-Iff.ensures in
    Writes-same (sym text) (Writes-then (Writes-same left c.in_ok-write_part-in-Iff.ensures) (Writes-cut c.from_residual-in_err-write_text-in-Iff.result _ c.from_residual-in_err-write_text-in-Iff.ensures.0 c.in_err-write_text-in-Iff.ensures))

pub write_formula-returns-in_ok-write_text-in-Iff : goal.write_formula-returns-in_ok-write_text-in-Iff
write_formula-returns-in_ok-write_text-in-Iff g t c =
    let u = c.args.book.now.universe in
    let vs = variables_of c.args.variables.now in
    let text = ap (λ f. statement_text u vs (statement_of f)) c.in-Iff.is ∙ ap (statement_text u vs) (of_Iff c.in-Iff.left c.in-Iff.right) in
    let left = ap (λ f. part_text u vs 2 (statement_of f)) c.deref-in-Iff.ensures in
    let right = ap (λ f. part_text u vs 2 (statement_of f)) c.deref-in-Iff-2.ensures in
    Writes-same (sym text) (Writes-then (Writes-same left c.in_ok-write_part-in-Iff.ensures) (Writes-then c.in_ok-write_text-in-Iff.ensures (Writes-same right c.write_part-in-Iff-2.ensures)))

pub write_formula-returns-in_err-write_quantifier-in-ForAll : goal.write_formula-returns-in_err-write_quantifier-in-ForAll
write_formula-returns-in_err-write_quantifier-in-ForAll g t c =
    let u = c.args.book.now.universe in
    let vs = variables_of c.args.variables.now in
    let text = ap (λ f. statement_text u vs (statement_of f)) c.in-ForAll.is ∙ ap (statement_text u vs) (of_ForAll c.in-ForAll.name c.in-ForAll.sort c.in-ForAll.body) in
    Writes-same (sym text) (Writes-cut c.from_residual-in_err-write_quantifier-in-ForAll.result _ c.from_residual-in_err-write_quantifier-in-ForAll.ensures.0 c.in_err-write_quantifier-in-ForAll.ensures)

pub write_formula-returns-in_ok-write_quantifier-in-ForAll : goal.write_formula-returns-in_ok-write_quantifier-in-ForAll
write_formula-returns-in_ok-write_quantifier-in-ForAll g t c =
    let u = c.args.book.now.universe in
    let vs = variables_of c.args.variables.now in
    let text = ap (λ f. statement_text u vs (statement_of f)) c.in-ForAll.is ∙ ap (statement_text u vs) (of_ForAll c.in-ForAll.name c.in-ForAll.sort c.in-ForAll.body) in
    let body = ap (λ f. statement_text u (vs ++ (c.in-ForAll.name, c.in-ForAll.sort) ∷ []) (statement_of f)) c.deref-in-ForAll.ensures in
    Writes-same (sym text) (Writes-then c.in_ok-write_quantifier-in-ForAll.ensures (Writes-same body c.write_body.ensures))

pub write_formula-returns-in_err-write_quantifier-in-Exists : goal.write_formula-returns-in_err-write_quantifier-in-Exists
write_formula-returns-in_err-write_quantifier-in-Exists g t c =
    let u = c.args.book.now.universe in
    let vs = variables_of c.args.variables.now in
    let text = ap (λ f. statement_text u vs (statement_of f)) c.in-Exists.is ∙ ap (statement_text u vs) (of_Exists c.in-Exists.name c.in-Exists.sort c.in-Exists.body) in
    Writes-same (sym text) (Writes-cut c.from_residual-in_err-write_quantifier-in-Exists.result _ c.from_residual-in_err-write_quantifier-in-Exists.ensures.0 c.in_err-write_quantifier-in-Exists.ensures)

pub write_formula-returns-in_ok-write_quantifier-in-Exists : goal.write_formula-returns-in_ok-write_quantifier-in-Exists
write_formula-returns-in_ok-write_quantifier-in-Exists g t c =
    let u = c.args.book.now.universe in
    let vs = variables_of c.args.variables.now in
    let text = ap (λ f. statement_text u vs (statement_of f)) c.in-Exists.is ∙ ap (statement_text u vs) (of_Exists c.in-Exists.name c.in-Exists.sort c.in-Exists.body) in
    let body = ap (λ f. statement_text u (vs ++ (c.in-Exists.name, c.in-Exists.sort) ∷ []) (statement_of f)) c.deref-in-Exists.ensures in
    Writes-same (sym text) (Writes-then c.in_ok-write_quantifier-in-Exists.ensures (Writes-same body c.write_body-in-Exists.ensures))

pub write_formula-returns-in_err-write_count-in-Count : goal.write_formula-returns-in_err-write_count-in-Count
write_formula-returns-in_err-write_count-in-Count g t c =
    let u = c.args.book.now.universe in
    let vs = variables_of c.args.variables.now in
    let text = ap (λ f. statement_text u vs (statement_of f)) c.in-Count.is ∙ ap (statement_text u vs) (of_Count c.in-Count.at_most c.in-Count.bound c.in-Count.name c.in-Count.sort c.in-Count.body) in
    Writes-same (sym text) (Writes-cut c.from_residual-in_err-write_count-in-Count.result _ c.from_residual-in_err-write_count-in-Count.ensures.0 c.in_err-write_count-in-Count.ensures)

pub write_formula-returns-in_ok-write_count-in-Count : goal.write_formula-returns-in_ok-write_count-in-Count
write_formula-returns-in_ok-write_count-in-Count g t c =
    let u = c.args.book.now.universe in
    let vs = variables_of c.args.variables.now in
    let text = ap (λ f. statement_text u vs (statement_of f)) c.in-Count.is ∙ ap (statement_text u vs) (of_Count c.in-Count.at_most c.in-Count.bound c.in-Count.name c.in-Count.sort c.in-Count.body) in
    let body = ap (λ f. statement_text u (vs ++ (c.in-Count.name, c.in-Count.sort) ∷ []) (statement_of f)) c.deref-in-Count.ensures in
    Writes-same (sym text) (Writes-then c.in_ok-write_count-in-Count.ensures (Writes-same body c.write_body-in-Count.ensures))
