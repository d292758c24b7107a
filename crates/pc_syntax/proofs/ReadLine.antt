-- What a line's bytes, its text and its words say of one another.
use Rattle.std.proofs.Common.{◌≡◌, ℕ, ◌≤◌, Bool, true, false, List, [], ◌∷◌, ◌⊎◌, ◌↔◌, IsTrue, refl, sym, ◌∙◌, ap, ap₂, subst, arith}
use Rattle.std.specs.Str.{IsUtf8}
use Rattle.pc_token.specs.declared.token.Kind.TheVariants.{Name}
use Rattle.pc_token.specs.Token.{split}
use Rattle.pc_token.specs.Line.{IsBlankLine, IsComment, IsOneName}
use Rattle.pc_token.proofs.Once.{one_reading}
use Rattle.pc_formula.specs.declared.refusal.Refusal.{Refusal}
use Rattle.pc_formula.specs.declared.refusal.Refusal.TheVariants as refusal
use Rattle.pc_formula.specs.Word.{Word, name, word, words_of, HasWords, nesting, most_nesting}
use Rattle.pc_syntax.specs.declared.fault.LineFault.{LineFault}
use Rattle.pc_syntax.specs.declared.fault.LineFault.TheVariants as line_fault
use Rattle.pc_syntax.specs.Spelling.{IsNothing, IsSpelled, IsTooDeep}
use Rattle.pc_syntax.specs.Fault.{IsAtFault, deep, formless}
use Rattle.pc_syntax.specs.Told.{Spells, SpellsTooDeep, SpellsNone, Means, line_fault_of}

-- a line splits into one list of words
pub one_words : (line : List ℕ) (ws vs : List Word) → HasWords line ws → HasWords line vs → ws ≡ vs
one_words line ws vs a b =
    let readings = one_reading line (split a.tokens) (split b.tokens) a.splits b.splits in
    let tokens : a.tokens ≡ b.tokens = cc in
    a.words ∙ ap (words_of line) tokens ∙ sym b.words

pub false_no_true : false ≡ true → ⊥
false_no_true e = cc

pub differs : (b : Bool) (A : Type 0) → (IsTrue b ↔ A) → b ≡ false → A → ⊥
differs b A both stays is = false_no_true (sym stays ∙ both.1 is)

-- ---- words and faults of a text

-- what is said of the words that a text spells
pub spells_more : (text : List ℕ) (P Q : List Word → Type 0) → ((ws : List Word) → P ws → Q ws) → Spells text P → Spells text Q
spells_more text P Q more s = record { words = s.words; has = s.has; within = s.within; is = more s.words s.is }

pub spells_none_more : (text : List ℕ) (f : LineFault) (P Q : List Word → Type 0) → ((ws : List Word) → Q ws → P ws) → SpellsNone text f P → SpellsNone text f Q
spells_none_more text line_fault.NotUtf8 P Q more none = none
spells_none_more text line_fault.TooDeep P Q more none = none
spells_none_more text line_fault.Syntax P Q more none = λ ws has. let n = none ws has in (n.0, λ q. n.1 (more ws q))
spells_none_more text line_fault.Memory P Q more none = tt

-- the words of a text, which a reader of words refuses
pub refused : (text : List ℕ) (vs : List Word) (r : Refusal) (P : List Word → Type 0) → Spells text (λ ws. ws ≡ vs) → (r ≡ refusal.Syntax → P vs → ⊥) → SpellsNone text (line_fault_of r) P
refused text vs refusal.Syntax P s none = λ ws has.
    let same : ws ≡ vs = one_words text ws s.words has s.has ∙ s.is in
    let within = subst (λ l. nesting l ≤ most_nesting) (one_words text s.words ws s.has has) s.within in
    (within, λ p. none refl (subst P same p))
refused text vs refusal.Memory P s none = tt

-- the words of a text, which a reader of words reads so
pub accepted : (text : List ℕ) (vs : List Word) (P : List Word → Type 0) → Spells text (λ ws. ws ≡ vs) → P vs → Spells text P
accepted text vs P s p = record { words = s.words; has = s.has; within = s.within; is = subst P (sym s.is) p }

-- ---- a text that is a line

module _ (text line : List ℕ) (same : text ≡ line) where
  pub is_nothing : IsUtf8 line → IsBlankLine text ⊎ IsComment text → IsNothing line
  is_nothing utf8 empty = record { utf8 = utf8; empty = subst (λ l. IsBlankLine l ⊎ IsComment l) same empty }

  pub something : (b : Bool) → b ≡ false → (IsBlankLine text ⊎ IsComment text → IsTrue b) → IsNothing line → ⊥
  something b is neither n = false_no_true (sym is ∙ neither (subst (λ l. IsBlankLine l ⊎ IsComment l) (sym same) n.empty))

  module _ (utf8 : IsUtf8 line) (some : IsNothing line → ⊥) where
    pub spelled : (P : List Word → Type 0) → (s : Spells text P) → IsSpelled line s.words
    spelled P s = record { split = record { utf8 = utf8; something = some; has = subst (λ l. HasWords l s.words) same s.has }; within = s.within }

    too_deep_line : SpellsTooDeep text → IsTooDeep line
    too_deep_line s = record { words = s.words; split = record { utf8 = utf8; something = some; has = subst (λ l. HasWords l s.words) same s.has }; deep = s.deep }

    -- the fault of the text is that of the line, which has a form where its words have one
    pub faulty : (f : LineFault) (P : List Word → Type 0) (H : Type 0) → (H → (ws : List Word) × IsSpelled line ws × P ws) → SpellsNone text f P → Means f (λ e. IsAtFault line H e)
    faulty line_fault.NotUtf8 P H back none = absurd none
    faulty line_fault.TooDeep P H back none = deep (too_deep_line none)
    faulty line_fault.Syntax P H back none =
        formless utf8
        (λ d. let n = none d.words (subst (λ l. HasWords l d.words) (sym same) d.split.has) in absurd (omega (arith, n.0, d.deep)))
        (λ h. let w = back h in (none w.0 (subst (λ l. HasWords l w.0) (sym same) w.1.split.has)).1 w.2)
    faulty line_fault.Memory P H back none = tt

-- ---- a line of one name

pub one_name_has : (text n : List ℕ) → word Name n ≡ name n → IsOneName text n → HasWords text (name n ∷ [])
one_name_has text n known one = record {
  tokens = one.0 ∷ [];
  splits = one.1;
  words = ap (λ w. w ∷ []) (sym known) ∙ sym (ap₂ (λ k s. word k s ∷ []) one.2 one.3);
}
