use Rattle.std.proofs.Common.{◌≡◌, Err, sym, ◌∙◌, ap, subst}
use Rattle.std.proofs.lemmas.Result.{err_from_is_err_and}
use Rattle.pc_formula.specs.declared.refusal.Refusal.TheVariants.{Syntax}
use Rattle.pc_formula.specs.Equation.{equality}
use Rattle.pc_cert.specs.Claims.{IsWholePair}
use Rattle.pc_cert.proofs.Words.{tails}
use Rattle.pc_cert.proofs.spelled.claim_words.Goals as goal

pub returns-in_err-cell-clause-none : goal.returns-in_err-cell-clause-none
returns-in_err-cell-clause-none c = λ e x is.
    let p = err_from_is_err_and c.from_residual.result c.from_residual.ensures.1 in
    let same : c.in_err-cell.field-0.0 ≡ Syntax = cc (e, p.1, p.2) in
    let rest = tails _ _ is.rest c.take_name.new.self (sym is.are ∙ c.in-Some.ensures.0) in
    c.in_err-cell.ensures.none (ap Err same) x.0.cell x.0.value x.1 (subst (λ ws. IsWholePair (equality x.1) ws x.0) rest is.pair)
