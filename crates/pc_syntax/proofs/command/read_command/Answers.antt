use Rattle.std.proofs.Common.{◌≡◌, ◌↔◌, ℕ, List, Bool, false, IsTrue, Err, inl, inr, sym, ◌∙◌, ap, subst}
use Rattle.std.proofs.lemmas.Result.{err_from_is_err_and}
use Rattle.pc_formula.specs.Word.{Word, words_of}
use Rattle.pc_syntax.specs.Tree.{asked_of}
use Rattle.pc_syntax.specs.Command.{IsCommand, IsDeepAsk}
use Rattle.pc_syntax.specs.Told.{SpellsNone, IsHeard, IsAskedTold, line_fault_of}
use Rattle.pc_syntax.proofs.ReadLine.{accepted, refused, differs}
use Rattle.pc_syntax.proofs.CommandTold.{tokens_told, refused_asked}
use Rattle.pc_syntax.proofs.command.read_command.Goals as goal

pub returns-in_err-found : goal.returns-in_err-found
returns-in_err-found c =
    let p = err_from_is_err_and c.from_residual.result c.from_residual.ensures.1 in
    let same : p.0 ≡ c.in_err-found.field-0.0 = cc p.2 in
    let none = subst (λ e. SpellsNone c.args.text.now e (λ ws. Unit {0})) (sym same) c.in_err-found.ensures.told in
    subst (IsAskedTold c.args.text.now) (sym p.1) (tokens_told c.args.text.now p.0 none)

pub returns-then-is_deep_ask : goal.returns-then-is_deep_ask
returns-then-is_deep_ask c =
    let words : c.new.result ≡ words_of c.args.text.now c.in_ok-found.found.items = c.new.ensures ∙ ap (words_of c.args.text.now) c.as_slice.ensures.value in
    inr (accepted c.args.text.now (words_of c.args.text.now c.in_ok-found.found.items) IsDeepAsk c.in_ok-found.ensures.told (subst IsDeepAsk words (c.is_deep_ask.ensures.0 c.if-is_deep_ask.true)))

-- what is read isn't one that goes too deep
not_deep : (text : List ℕ) (vs us : List Word) (b : Bool) → b ≡ false → (IsTrue b ↔ IsDeepAsk us) → us ≡ vs → ¬ IsDeepAsk vs
not_deep text vs us b is both same deep = differs b (IsDeepAsk us) both is (subst IsDeepAsk (sym same) deep)

pub returns-in_err-command : goal.returns-in_err-command
returns-in_err-command c =
    let p = err_from_is_err_and c.from_residual-in_err-command.result c.from_residual-in_err-command.ensures.1 in
    let same : p.0 ≡ line_fault_of c.in_err-command.field-0.0 = cc p.2 in
    let vs = words_of c.args.text.now c.in_ok-found.found.items in
    let first : c.new.result ≡ vs = c.new.ensures ∙ ap (words_of c.args.text.now) c.as_slice.ensures.value in
    let words : c.new-words.result ≡ vs = c.new-words.ensures ∙ ap (words_of c.args.text.now) c.as_slice-2.ensures.value in
    let shallow = not_deep c.args.text.now vs c.new.result c.is_deep_ask.result c.if-is_deep_ask.false c.is_deep_ask.ensures first in
    let none = refused c.args.text.now vs c.in_err-command.field-0.0 IsHeard c.in_ok-found.ensures.told (λ e q. elim q [
      | inl a ↦ c.in_err-command.ensures.none (ap Err e) a.0 (subst (λ l. IsCommand l a.0) (sym words) a.1)
      | inr deep ↦ shallow deep
    ]) in
    subst (IsAskedTold c.args.text.now) (sym p.1) (subst (λ e. IsAskedTold c.args.text.now (Err e)) (sym same) (refused_asked c.args.text.now c.in_err-command.field-0.0 none))

pub returns : goal.returns
returns c =
    let vs = words_of c.args.text.now c.in_ok-found.found.items in
    let first : c.new.result ≡ vs = c.new.ensures ∙ ap (words_of c.args.text.now) c.as_slice.ensures.value in
    let words : c.new-words.result ≡ vs = c.new-words.ensures ∙ ap (words_of c.args.text.now) c.as_slice-2.ensures.value in
    let shallow = not_deep c.args.text.now vs c.new.result c.is_deep_ask.result c.if-is_deep_ask.false c.is_deep_ask.ensures first in
    accepted c.args.text.now vs (λ ws. IsCommand ws (asked_of c.in_ok-command.command) × (¬ IsDeepAsk ws)) c.in_ok-found.ensures.told
    (subst (λ l. IsCommand l (asked_of c.in_ok-command.command)) words c.in_ok-command.ensures.told, shallow)
