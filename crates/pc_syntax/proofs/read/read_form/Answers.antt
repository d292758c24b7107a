use Rattle.std.proofs.Common.{◌≡◌, Err, sym, ◌∙◌, ap, subst}
use Rattle.std.proofs.lemmas.Result.{err_from_is_err_and}
use Rattle.pc_formula.specs.Word.{words_of}
use Rattle.pc_syntax.specs.Line.{LineForm, IsForm}
use Rattle.pc_syntax.specs.Told.{SpellsNone, IsFormTold, form_of, line_fault_of}
use Rattle.pc_syntax.proofs.ReadLine.{accepted, refused, spells_none_more}
use Rattle.pc_syntax.proofs.read.read_form.Goals as goal

pub returns-in_err-found : goal.returns-in_err-found
returns-in_err-found c =
    let p = err_from_is_err_and c.from_residual.result c.from_residual.ensures.1 in
    let same : p.0 ≡ c.in_err-found.field-0.0 = cc p.2 in
    let none = subst (λ e. SpellsNone c.args.text.now e (λ ws. Unit {0})) (sym same) c.in_err-found.ensures.told in
    subst (IsFormTold c.args.text.now) (sym p.1) (spells_none_more c.args.text.now p.0 (λ ws. Unit {0}) (λ ws. (form : LineForm) × IsForm ws form) (λ ws q. tt) none)

pub returns-in_err-form : goal.returns-in_err-form
returns-in_err-form c =
    let p = err_from_is_err_and c.from_residual-in_err-form.result c.from_residual-in_err-form.ensures.1 in
    let same : p.0 ≡ line_fault_of c.in_err-form.field-0.0 = cc p.2 in
    let words : c.new-words.result ≡ words_of c.args.text.now c.in_ok-found.found.items = c.new-words.ensures ∙ ap (words_of c.args.text.now) c.as_slice.ensures.value in
    let none = refused c.args.text.now (words_of c.args.text.now c.in_ok-found.found.items) c.in_err-form.field-0.0 (λ ws. (form : LineForm) × IsForm ws form) c.in_ok-found.ensures.told (λ e q. c.in_err-form.ensures.none (ap Err e) q.0 (subst (λ l. IsForm l q.0) (sym words) q.1)) in
    subst (IsFormTold c.args.text.now) (sym p.1) (subst (λ e. SpellsNone c.args.text.now e (λ ws. (form : LineForm) × IsForm ws form)) (sym same) none)

pub returns : goal.returns
returns c =
    let words : c.new-words.result ≡ words_of c.args.text.now c.in_ok-found.found.items = c.new-words.ensures ∙ ap (words_of c.args.text.now) c.as_slice.ensures.value in
    accepted c.args.text.now (words_of c.args.text.now c.in_ok-found.found.items) (λ ws. IsForm ws (form_of c.in_ok-form.form)) c.in_ok-found.ensures.told (subst (λ l. IsForm l (form_of c.in_ok-form.form)) words c.in_ok-form.ensures.told)
