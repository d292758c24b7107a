use Rattle.std.proofs.Common.{◌≡◌, Err, [], sym, ap, subst}
use Rattle.std.proofs.lemmas.Result.{err_from_is_err_and}
use Rattle.pc_formula.specs.declared.refusal.Refusal.TheVariants.{Syntax}
use Rattle.pc_cert.specs.Texts.{IsCellText}
use Rattle.pc_cert.specs.Trees.{seen}
use Rattle.pc_cert.proofs.Parted.{only_some, seen_first}
use Rattle.pc_cert.proofs.part.some_part.Goals as goal

pub returns-in_err-cell-clause-none : goal.returns-in_err-cell-clause-none
returns-in_err-cell-clause-none c = λ e part is.
    let p = err_from_is_err_and c.from_residual.result c.from_residual.ensures.1 in
    let same : c.in_err-cell.field-0.0 ≡ Syntax = cc (e, p.1, p.2) in
    only_some (seen c.args.texts.now) (λ c' form. c.in_err-cell.ensures.none (ap Err same) c' (subst (λ t. IsCellText t c') (sym (seen_first c.args.texts.now _ form.cell [] form.are)) form.is_cell)) part is
