use Rattle.std.proofs.Common.{◌≡◌, Err, [], ◌∷◌, sym, ap, subst}
use Rattle.std.proofs.lemmas.Result.{err_from_is_err_and}
use Rattle.pc_formula.specs.declared.refusal.Refusal.TheVariants.{Syntax}
use Rattle.pc_cert.specs.Texts.{IsCellText, IsValueText}
use Rattle.pc_cert.specs.Trees.{seen}
use Rattle.pc_cert.proofs.Parted.{only_one, seen_first, seen_second, seen_third}
use Rattle.pc_cert.proofs.part.one_part.Goals as goal

pub returns-in_err-cell-clause-none : goal.returns-in_err-cell-clause-none
returns-in_err-cell-clause-none c = λ e part is.
    let p = err_from_is_err_and c.from_residual.result c.from_residual.ensures.1 in
    let same : c.in_err-cell.field-0.0 ≡ Syntax = cc (e, p.1, p.2) in
    only_one (seen c.args.texts.now) (λ c' v w form. c.in_err-cell.ensures.none (ap Err same) c' (subst (λ t. IsCellText t c') (sym (seen_first c.args.texts.now _ form.cell (form.first ∷ form.second ∷ []) form.are)) form.is_cell)) part is

pub returns-in_err-first-clause-none : goal.returns-in_err-first-clause-none
returns-in_err-first-clause-none c = λ e part is.
    let p = err_from_is_err_and c.from_residual-in_err-first.result c.from_residual-in_err-first.ensures.1 in
    let same : c.in_err-first.field-0.0 ≡ Syntax = cc (e, p.1, p.2) in
    only_one (seen c.args.texts.now) (λ c' v w form. c.in_err-first.ensures.none (ap Err same) v (subst (λ t. IsValueText t v) (sym (seen_second c.args.texts.now _ form.cell form.first (form.second ∷ []) form.are)) form.is_first)) part is

pub returns-in_err-second-clause-none : goal.returns-in_err-second-clause-none
returns-in_err-second-clause-none c = λ e part is.
    let p = err_from_is_err_and c.from_residual-in_err-second.result c.from_residual-in_err-second.ensures.1 in
    let same : c.in_err-second.field-0.0 ≡ Syntax = cc (e, p.1, p.2) in
    only_one (seen c.args.texts.now) (λ c' v w form. c.in_err-second.ensures.none (ap Err same) w (subst (λ t. IsValueText t w) (sym (seen_third c.args.texts.now _ form.cell form.first form.second [] form.are)) form.is_second)) part is
