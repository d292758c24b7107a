use Rattle.std.proofs.Common.{◌≡◌, Err, [], ◌∷◌, sym, ap, subst}
use Rattle.std.proofs.lemmas.Result.{err_from_is_err_and}
use Rattle.pc_formula.specs.declared.refusal.Refusal.TheVariants.{Syntax}
use Rattle.pc_cert.specs.Texts.{IsPathText}
use Rattle.pc_cert.specs.Trees.{seen}
use Rattle.pc_cert.proofs.Parted.{only_node, seen_first}
use Rattle.pc_cert.proofs.part.node_part.Goals as goal

pub returns-in_err-path-clause-none : goal.returns-in_err-path-clause-none
returns-in_err-path-clause-none c = λ e part is.
    let p = err_from_is_err_and c.from_residual.result c.from_residual.ensures.1 in
    let same : c.in_err-path.field-0.0 ≡ Syntax = cc (e, p.1, p.2) in
    only_node (seen c.args.texts.now) (λ w i form. c.in_err-path.ensures.none (ap Err same) w (subst (λ t. IsPathText t w) (sym (seen_first c.args.texts.now _ form.path (form.number ∷ []) form.are)) form.is_path)) part is
