use Rattle.std.proofs.Common.{◌≡◌, Err, ap}
use Rattle.std.proofs.lemmas.Result.{err_from_is_err_and}
use Rattle.pc_formula.specs.declared.refusal.Refusal.TheVariants.{Syntax}
use Rattle.pc_cert.proofs.spelled.whole_pair.Goals as goal

pub returns-in_err-cell-clause-none : goal.returns-in_err-cell-clause-none
returns-in_err-cell-clause-none c = λ e x is.
    let p = err_from_is_err_and c.from_residual.result c.from_residual.ensures.1 in
    let same : c.in_err-cell.field-0.0 ≡ Syntax = cc (e, p.1, p.2) in
    c.in_err-cell.ensures.none (ap Err same) x.cell x.value is
