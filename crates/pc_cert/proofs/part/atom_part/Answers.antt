use Rattle.std.proofs.Common.{◌≡◌, Err, sym, ◌∙◌, ap, subst}
use Rattle.std.proofs.lemmas.Result.{err_from_is_err_and}
use Rattle.pc_formula.specs.declared.refusal.Refusal.TheVariants.{Syntax}
use Rattle.pc_cert.specs.Texts.{IsPathText}
use Rattle.pc_cert.specs.Trees.{seen}
use Rattle.pc_cert.proofs.Words.{heads}
use Rattle.pc_cert.proofs.Parted.{only_atom}
use Rattle.pc_cert.proofs.part.atom_part.Goals as goal

pub returns-in_err-path-clause-none : goal.returns-in_err-path-clause-none
returns-in_err-path-clause-none c = λ e part is.
    let p = err_from_is_err_and c.from_residual.result c.from_residual.ensures.1 in
    let same : c.in_err-path.field-0.0 ≡ Syntax = cc (e, p.1, p.2) in
    only_atom (seen c.args.texts.now)
    (λ w reads form.
    let path = heads c.in-Some.path.now.now form.path (seen c.in-Some.reads.now) form.others (sym (ap seen c.in-Some.ensures.cases.0) ∙ form.are) in
    c.in_err-path.ensures.none (ap Err same) w (subst (λ t. IsPathText t w) (sym path) form.is_path))
    part is
