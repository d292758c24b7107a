use Rattle.std.proofs.Common.{◌≡◌, Err, ap}
use Rattle.std.proofs.lemmas.Result.{err_from_is_err_and}
use Rattle.pc_formula.specs.declared.refusal.Refusal.TheVariants.{Syntax}
use Rattle.pc_cert.specs.Trees.{seen}
use Rattle.pc_cert.proofs.Forms.{only_uses}
use Rattle.pc_cert.proofs.line.use_line.Goals as goal

pub returns-in_err-pair-clause-none : goal.returns-in_err-pair-clause-none
returns-in_err-pair-clause-none c = λ e f is.
    let p = err_from_is_err_and c.from_residual.result c.from_residual.ensures.1 in
    let same : c.in_err-pair.field-0.0 ≡ Syntax = cc (e, p.1, p.2) in
    only_uses c.args.line.now (seen c.args.rest.now) (c.in_err-pair.ensures.none (ap Err same)) f is
