-- What the words of a text are, from the words that were read.
use Rattle.std.proofs.Common.{◌≡◌, ℕ, List, Result, Ok, Err, IfOk, sym, ◌∙◌, ap, subst}
use Rattle.pc_token.specs.Token.{split}
use Rattle.pc_token.proofs.Once.{one_reading}
use Rattle.pc_formula.specs.Word.{Word, words_of, HasWords}
use Rattle.pc_cert.specs.Words.{SpellsWords, SpellsThis}

-- a text splits into one list of words
pub one_words : (text : List ℕ) (ws vs : List Word) → HasWords text ws → HasWords text vs → ws ≡ vs
one_words text ws vs a b =
    let readings = one_reading text (split a.tokens) (split b.tokens) a.splits b.splits in
    let tokens : a.tokens ≡ b.tokens = cc in
    a.words ∙ ap (words_of text) tokens ∙ sym b.words

pub if_ok_more : {A E : Type 0} (r : Result A E) (P Q : A → Type 0) → ((a : A) → P a → Q a) → IfOk r P → IfOk r Q
if_ok_more (Ok a) P Q more is = more a is
if_ok_more (Err e) P Q more is = tt

-- a text that spells words is what they are, and nothing else
module _ {A : Type 0} (Is : List Word → A → Type 0) (text : List ℕ) (ws vs : List Word) (spells : SpellsWords text ws) (same : vs ≡ ws) where
  pub spells_this : {B E : Type 0} (view : B → A) (r : Result B E) → IfOk r (λ b. Is vs (view b)) → IfOk r (λ b. SpellsThis Is text (view b))
  spells_this view r told = if_ok_more r _ _ (λ b is. record { words = vs; spells = subst (SpellsWords text) (sym same) spells; is = is }) told

  pub spells_nothing : ((a : A) → Is vs a → ⊥) → (a : A) → SpellsThis Is text a → ⊥
  spells_nothing none a s = none a (subst (λ us. Is us a) (one_words text s.words ws s.spells.has spells.has ∙ sym same) s.is)
