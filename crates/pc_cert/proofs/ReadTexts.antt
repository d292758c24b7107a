-- A text is at most one number, cell, value, read, path or literal.
use Rattle.std.proofs.Common.{◌≡◌, ℕ, Bool, true, false, List, [], ◌∷◌, refl, sym, ◌∙◌, ap, ap₂, subst, if◌then◌else◌}
use Rattle.std.specs.Prelude.{◌==◌}
use Rattle.std.specs.List.{slice_split, onto_first}
use Rattle.pc_token.specs.declared.token.Kind.TheVariants.{Equal}
use Rattle.pc_token.specs.Token.{LineReading, split, IsReadingOf}
use Rattle.pc_formula.specs.Word.{Word, words_of, HasWords}
use Rattle.pc_formula.specs.Tree.{Cell, Value}
use Rattle.pc_formula.specs.Front.{StopsLevel}
use Rattle.pc_formula.specs.Value.{DerivesCell, DerivesValue}
use Rattle.pc_formula.specs.Equation.{equality, IsEquation}
use Rattle.pc_cert.specs.Written.{WrittenPath, WrittenSymbol, written_pair, written_node, WrittenLiteral}
use Rattle.pc_cert.specs.Claims.{WrittenPair, IsWholePair}
use Rattle.pc_cert.specs.Texts.{IsWholeCell, IsWholeValue, IsCellText, IsValueText, IsReadText, IsNumberText, AreAll, pieces_of, IsPathText, without_negation, is_path, IsSymbolText, IsLiteralText}
use Rattle.pc_cert.specs.Words.{SpellsThis}
use Rattle.pc_cert.proofs.TestsDiffer.{heads, tails, false_no_true}

-- a line has one reading, and words start with one value and one cell and are one equation at most
pub record IsUnambiguous : Type 0 where
  pub reading : (line : List ℕ) (q r : LineReading) → IsReadingOf line q → IsReadingOf line r → q ≡ r
  pub value : (ws : List Word) (v w : Value) (r s : List Word) → DerivesValue ws v r → DerivesValue ws w s → (v ≡ w) × (r ≡ s)
  pub cell : (ws : List Word) (c d : Cell) (r s : List Word) → DerivesCell ws c r → DerivesCell ws d s → StopsLevel 1 r → StopsLevel 1 s → (c ≡ d) × (r ≡ s)
  pub equation : (ws : List Word) (c d : Cell) (v w : Value) (g h : Bool) → IsEquation ws (equality g) c v → IsEquation ws (equality h) d w → (c ≡ d) × (v ≡ w) × (g ≡ h)

-- ---- one text after another

module _ {A : Type 0} (X : List ℕ → A → Type 0) (once : (text : List ℕ) (a b : A) → X text a → X text b → a ≡ b) where
  pub are_all_once : (texts : List (List ℕ)) (xs ys : List A) → AreAll X texts xs → AreAll X texts ys → xs ≡ ys
  are_all_once [] [] [] a b = refl
  are_all_once [] [] (y ∷ ys) a b = absurd b
  are_all_once [] (x ∷ xs) ys a b = absurd a
  are_all_once (t ∷ ts) [] ys a b = absurd a
  are_all_once (t ∷ ts) (x ∷ xs) [] a b = absurd b
  are_all_once (t ∷ ts) (x ∷ xs) (y ∷ ys) a b = ap₂ (λ z zs. z ∷ zs) (once t x y a.0 b.0) (are_all_once ts xs ys a.1 b.1)

-- ---- numbers and paths

pub number_once : (text : List ℕ) (m n : ℕ) → IsNumberText text m → IsNumberText text n → m ≡ n
number_once text m n a b = a.value ∙ sym b.value

abbrev path : List ℕ → List ℕ → WrittenPath
path rule steps = record { rule = rule; steps = steps }

pub path_once : (text : List ℕ) (p q : WrittenPath) → IsPathText text p → IsPathText text q → p ≡ q
path_once text p q a b =
    let same : (64 ∷ p.rule) ∷ a.numbers ≡ (64 ∷ q.rule) ∷ b.numbers = sym a.pieces ∙ b.pieces in
    let numbers = tails (64 ∷ p.rule) (64 ∷ q.rule) a.numbers b.numbers same in
    let rule = tails 64 64 p.rule q.rule (heads (64 ∷ p.rule) (64 ∷ q.rule) a.numbers b.numbers same) in
    let steps = are_all_once IsNumberText number_once b.numbers p.steps q.steps (subst (λ ts. AreAll IsNumberText ts p.steps) numbers a.steps) b.steps in
    ap₂ path rule steps

-- the first byte of the first piece is the first byte
first_piece : (t : Bool) (c b : ℕ) (others parts : List (List ℕ)) (r : List ℕ) (more : List (List ℕ)) → (if t then [] ∷ others else onto_first c parts) ≡ (b ∷ r) ∷ more → c ≡ b
first_piece true c b others parts r more e = absurd (let f = heads [] (b ∷ r) others more e in cc)
first_piece false c b others [] r more e = cc
first_piece false c b others (x ∷ xs) r more e = cc

starts_path : (text : List ℕ) (r : List ℕ) (more : List (List ℕ)) → pieces_of text ≡ (64 ∷ r) ∷ more → is_path text ≡ true
starts_path [] r more e = absurd (let f = heads [] (64 ∷ r) [] more e in cc)
starts_path (c ∷ cs) r more e = ap (λ b. b == 64) (first_piece (c == 47) c 64 (slice_split (λ b. b == 47) cs) (slice_split (λ b. b == 47) cs) r more e)

path_starts : (text : List ℕ) (p : WrittenPath) → IsPathText text p → is_path text ≡ true
path_starts text p is = starts_path text p.rule is.numbers is.pieces

abbrev pair : Cell → Value → WrittenPair
pair c v = record { cell = c; value = v }

abbrev literal : WrittenSymbol → Bool → WrittenLiteral
literal s b = record { what = s; sign = b }

module _ (laws : IsUnambiguous) where
  -- ---- by tokens

  one_words : (text : List ℕ) (ws vs : List Word) → HasWords text ws → HasWords text vs → ws ≡ vs
  one_words text ws vs a b =
      let readings = laws.reading text (split a.tokens) (split b.tokens) a.splits b.splits in
      let tokens : a.tokens ≡ b.tokens = cc in
      a.words ∙ ap (words_of text) tokens ∙ sym b.words

  pub spelled_once : {A : Type 0} (Is : List Word → A → Type 0) → ((ws : List Word) (a b : A) → Is ws a → Is ws b → a ≡ b) → (text : List ℕ) (a b : A) → SpellsThis Is text a → SpellsThis Is text b → a ≡ b
  spelled_once Is once text a b s t = once t.words a b (subst (λ ws. Is ws a) (one_words text s.words t.words s.spells.has t.spells.has) s.is) t.is

  -- a text isn't spelled in two ways that no words are
  pub spelled_apart : {A B : Type 0} (Is : List Word → A → Type 0) (As : List Word → B → Type 0) → ((ws : List Word) (a : A) (b : B) → Is ws a → As ws b → ⊥) → (text : List ℕ) (a : A) (b : B) → SpellsThis Is text a → SpellsThis As text b → ⊥
  spelled_apart Is As apart text a b s t = apart t.words a b (subst (λ ws. Is ws a) (one_words text s.words t.words s.spells.has t.spells.has) s.is) t.is

  whole_cell_once : (ws : List Word) (c d : Cell) → IsWholeCell ws c → IsWholeCell ws d → c ≡ d
  whole_cell_once ws c d a b = (laws.cell ws c d [] [] a b tt tt).0

  whole_value_once : (ws : List Word) (v w : Value) → IsWholeValue ws v → IsWholeValue ws w → v ≡ w
  whole_value_once ws v w a b = (laws.value ws v w [] [] a b).0

  pub pair_once : (g h : Bool) (ws : List Word) (p q : WrittenPair) → IsWholePair (equality g) ws p → IsWholePair (equality h) ws q → (g ≡ h) × (p ≡ q)
  pair_once g h ws p q a b =
      let parts = laws.equation ws p.cell q.cell p.value q.value g h a b in
      (parts.2, ap₂ pair parts.0 parts.1)

  equals_once : (ws : List Word) (p q : WrittenPair) → IsWholePair Equal ws p → IsWholePair Equal ws q → p ≡ q
  equals_once ws p q a b = (pair_once true true ws p q a b).1

  -- ---- texts

  pub cell_once : (text : List ℕ) (c d : Cell) → IsCellText text c → IsCellText text d → c ≡ d
  cell_once text c d a b = spelled_once IsWholeCell whole_cell_once text c d a b

  pub value_once : (text : List ℕ) (v w : Value) → IsValueText text v → IsValueText text w → v ≡ w
  value_once text v w a b = spelled_once IsWholeValue whole_value_once text v w a b

  pub read_once : (text : List ℕ) (p q : WrittenPair) → IsReadText text p → IsReadText text q → p ≡ q
  read_once text p q a b = spelled_once (IsWholePair Equal) equals_once text p q a b

  symbol_once : (text : List ℕ) (s t : WrittenSymbol) → IsSymbolText text s → IsSymbolText text t → s ≡ t
  symbol_once text (written_pair p) (written_pair q) a b = ap written_pair (read_once text p q a.1 b.1)
  symbol_once text (written_pair p) (written_node q) a b = absurd (false_no_true (is_path text) a.0 (path_starts text q b))
  symbol_once text (written_node p) (written_pair q) a b = absurd (false_no_true (is_path text) b.0 (path_starts text p a))
  symbol_once text (written_node p) (written_node q) a b = ap written_node (path_once text p q a b)

  pub literal_once : (text : List ℕ) (l m : WrittenLiteral) → IsLiteralText text l → IsLiteralText text m → l ≡ m
  literal_once text l m a b = ap₂ literal (symbol_once (without_negation text) l.what m.what a.what b.what) (a.sign ∙ sym b.sign)
