use Rattle.std.proofs.Common.{◌≡◌, Err, sym, ◌∙◌, ap, subst, codes}
use Rattle.std.proofs.lemmas.Result.{err_from_is_err_and}
use Rattle.pc_formula.specs.declared.refusal.Refusal.TheVariants.{Syntax}
use Rattle.pc_cert.specs.Texts.{AreAll, IsLiteralText, IsNumberText}
use Rattle.pc_cert.specs.Trees.{seen}
use Rattle.pc_cert.proofs.Parted.{only_step, one_cut}
use Rattle.pc_cert.proofs.part.step_part.Goals as goal

pub returns-in_err-clause-clause-none : goal.returns-in_err-clause-clause-none
returns-in_err-clause-clause-none c = λ e part is.
    let p = err_from_is_err_and c.from_residual.result c.from_residual.ensures.1 in
    let same : c.in_err-clause.field-0.0 ≡ Syntax = cc (e, p.1, p.2) in
    only_step (seen c.args.texts.now)
    (λ ls hints form.
    let cut = one_cut (codes ":") form.literals form.hints (seen c.in-Some.literals.now) (seen c.in-Some.numbers.now) form.first c.in-Some.ensures.1 (sym form.parted ∙ c.in-Some.ensures.0) in
    c.in_err-clause.ensures.none (ap Err same) ls (subst (λ ts. AreAll IsLiteralText ts ls) cut.0 form.clause))
    part is

pub returns-in_err-hints-clause-none : goal.returns-in_err-hints-clause-none
returns-in_err-hints-clause-none c = λ e part is.
    let p = err_from_is_err_and c.from_residual-in_err-hints.result c.from_residual-in_err-hints.ensures.1 in
    let same : c.in_err-hints.field-0.0 ≡ Syntax = cc (e, p.1, p.2) in
    only_step (seen c.args.texts.now)
    (λ ls hints form.
    let cut = one_cut (codes ":") form.literals form.hints (seen c.in-Some.literals.now) (seen c.in-Some.numbers.now) form.first c.in-Some.ensures.1 (sym form.parted ∙ c.in-Some.ensures.0) in
    c.in_err-hints.ensures.none (ap Err same) hints (subst (λ ts. AreAll IsNumberText ts hints) cut.1 form.lines))
    part is
