use Rattle.std.proofs.Common.{◌≡◌, Err, sym, ◌∙◌, ap, subst}
use Rattle.std.proofs.lemmas.Result.{err_from_is_err_and}
use Rattle.pc_formula.specs.declared.refusal.Refusal.TheVariants.{Syntax}
use Rattle.pc_cert.specs.Line.{IsPartForm}
use Rattle.pc_cert.specs.Trees.{seen}
use Rattle.pc_cert.proofs.Words.{tails}
use Rattle.pc_cert.proofs.line.derivation_line.Goals as goal

pub returns-in_err-part-clause-none : goal.returns-in_err-part-clause-none
returns-in_err-part-clause-none c = λ e n part is.
    let p = err_from_is_err_and c.from_residual.result c.from_residual.ensures.1 in
    let same : c.in_err-part.field-0.0 ≡ Syntax = cc (e, p.1, p.2) in
    let rest = tails is.number c.in-Some.first.now.now is.more (seen c.in-Some.rest.now) (sym is.are ∙ ap seen c.in-Some.ensures.cases.0) in
    c.in_err-part.ensures.none (ap Err same) part (subst (λ ts. IsPartForm ts part) rest is.is)
