use Rattle.std.proofs.Common.{◌≡◌, Err, ap}
use Rattle.std.proofs.lemmas.Result.{err_from_is_err_and}
use Rattle.pc_formula.specs.declared.refusal.Refusal.TheVariants.{Syntax}
use Rattle.pc_cert.proofs.Symbols.{only_reads}
use Rattle.pc_cert.proofs.literal.read_symbol.Goals as goal

pub returns-in_err-pair-clause-none : goal.returns-in_err-pair-clause-none
returns-in_err-pair-clause-none c = λ e s all.
    let p = err_from_is_err_and c.from_residual-in_err-pair.result c.from_residual-in_err-pair.ensures.1 in
    let is : c.in_err-pair.field-0.0 ≡ Syntax = cc (e, p.1, p.2) in
    only_reads c.args.text.now c.starts_with.result c.starts_with.ensures c.if-starts_with.false (c.in_err-pair.ensures.none (ap Err is)) s all
