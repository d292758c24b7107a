-- Symbols that get their numbers in turn.
use Rattle.std.proofs.Common.{◌≡◌, ◌↔◌, ℕ, ◌+◌, ◌<◌, ◌≤◌, inl, inr, Option, Some, None, MatchOption, List, [], ◌∷◌, ◌++◌, map, take, length, get_or, Contains, slice_get, append_assoc, refl, ap, sym, ◌∙◌, subst, arith}
use Rattle.std.specs.Option.{option_map}
use Rattle.std.proofs.lemmas.Option.{get_or_from_slice_get, slice_get_within}
use Rattle.std.proofs.lemmas.List.{map-append, length-append, length-map, append-nil, get_or_append_left, take_all}
use Rattle.std.proofs.lemmas.List.Elements.{Contains-get_or}
use Rattle.pc_sheet.specs.Sheet.{Sheet}
use Rattle.pc_sheet.specs.declared.ids.Entry.{Entry}
use Rattle.pc_lits.specs.declared.literal.Lit.{Lit}
use Rattle.pc_accept.specs.Literals.{Symbol, pair, node, Literal}
use Rattle.pc_cert.specs.Keys.{IsNumberedAs}
use Rattle.pc_cert.specs.Meaning.{IsSymbolNamed, IsLiteralNamed, AreNamedEach}
use Rattle.pc_cert.specs.Claims.{IsPairNamed, WrittenPair}
use Rattle.pc_cert.specs.Numbered.{StartsWith, AreNumbered}
use Rattle.pc_cert.specs.Trees as tree
use Rattle.pc_cert.specs.Views.{symbol_of, symbol_at, literal_of, place_of, AppearInOrder}
use Rattle.pc_cert.specs.Written.{written_pair, WrittenLiteral}
use Rattle.pc_cert.specs.declared.cert.Symbol.{Symbol as SymbolRead}
use Rattle.pc_cert.specs.declared.tree.LiteralTree.{LiteralTree}
use Rattle.pc_cert.proofs.EachNamed.{joined, front, fails}
use Rattle.pc_cert.proofs.Images.{image}

abbrev pub pair_by : Entry → Symbol
pair_by e = pair e.cell e.value

of_pair : (sheet : Sheet) (p : WrittenPair) (s : Symbol) → IsSymbolNamed sheet (written_pair p) s → (e : Entry) × (pair_by e ≡ s) × IsPairNamed sheet.universe p e
of_pair sheet p (pair c v) is = (record { cell = c; value = v }, refl, is)
of_pair sheet p (node r steps) is = absurd is

pub pair_is : (sheet : Sheet) (p : WrittenPair) (o : Option Entry) → ((e : Entry) → (o ≡ Some e) ↔ IsPairNamed sheet.universe p e) → (s : Symbol) → (option_map pair_by o ≡ Some s) ↔ IsSymbolNamed sheet (written_pair p) s
pair_is sheet p o exact = image pair_by (IsPairNamed sheet.universe p) (IsSymbolNamed sheet (written_pair p)) (λ e is. is) (of_pair sheet p) o exact

-- ---- one symbol

grown : (old new : List Symbol) (x : Symbol) (n : ℕ) → IsNumberedAs old new x n → StartsWith old new
grown old new x n is = elim is.kept [ inl h ↦ ([], h.1 ∙ sym (append-nil old)) | inr h ↦ (x ∷ [], h.1) ]

longer : (old new : List Symbol) (x : Symbol) → new ≡ old ++ x ∷ [] → length new ≡ length old + 1
longer old new x e = ap length e ∙ length-append old (x ∷ [])

-- a new symbol's number is the next one
is_next : (old new : List Symbol) (x : Symbol) (n : ℕ) → ¬ Contains old x → new ≡ old ++ x ∷ [] → slice_get new n ≡ Some x → n ≡ length old
is_next old new x n absent more at =
    let within : n < length old + 1 = subst (λ m. n < m) (longer old new x more) (slice_get_within new n x at) in
    let not_before : ¬ (n < length old) = λ before.
    let here : get_or old n x ≡ x = sym (get_or_append_left old (x ∷ []) x n before) ∙ ap (λ xs. get_or xs n x) (sym more) ∙ get_or_from_slice_get new n x x at in
    absent (subst (Contains old) here (Contains-get_or old n x before))
    in
    omega (arith, within, not_before)

module _ (symbols : List SymbolRead) (x : SymbolRead) (old new : List Symbol) (n : ℕ) (kept : old ≡ map symbol_of symbols) (is : IsNumberedAs old new (symbol_of x) n) where
  same_length : length old ≡ length symbols
  same_length = ap length kept ∙ length-map symbols symbol_of

  pub kept_pushed : (pushed : List SymbolRead) → n ≡ length symbols → pushed ≡ symbols ++ x ∷ [] → new ≡ map symbol_of pushed
  kept_pushed pushed next more = elim is.kept [
    | inl h ↦
        let within : n < length old = subst (λ (xs : List Symbol). n < length xs) h.1 (slice_get_within new n (symbol_of x) is.at) in
        absurd (omega (arith, within, next, same_length))
    | inr h ↦ h.1 ∙ ap (λ xs. xs ++ symbol_of x ∷ []) kept ∙ sym (map-append symbol_of symbols (x ∷ [])) ∙ ap (map symbol_of) (sym more)
  ]

  pub kept_found : (n ≡ length symbols → ⊥) → new ≡ map symbol_of symbols
  kept_found other = elim is.kept [
    | inl h ↦ h.1 ∙ kept
    | inr h ↦ absurd (other (is_next old new (symbol_of x) n h.0 h.1 is.at ∙ same_length))
  ]

pub one_numbered : (sheet : Sheet) (w : WrittenLiteral) (old new : List Symbol) (x : Symbol) (n : ℕ) → IsNumberedAs old new x n → IsSymbolNamed sheet w.what x → AreNumbered sheet (w ∷ []) old new (record { variable = record { 0 = n }; sign = w.sign } ∷ [])
one_numbered sheet w old new x n is named = record {
  grows = grown old new x n is;
  named = (record { what = subst (IsSymbolNamed sheet w.what) (sym (get_or_from_slice_get new n x (node 0 []) is.at)) named; sign = refl }, tt);
  appear = elim is.kept [
    | inl h ↦ inl (subst (λ (xs : List Symbol). n < length xs) h.1 (slice_get_within new n x is.at), ap length (sym h.1))
    | inr h ↦ inr (is_next old new x n h.0 h.1 is.at, sym (longer old new x h.1))
  ];
}

-- ---- several symbols

pub appear_on : (n : ℕ) (ks : List ℕ) (m : ℕ) (js : List ℕ) (l : ℕ) → AppearInOrder n ks m → AppearInOrder m js l → AppearInOrder n (ks ++ js) l
appear_on n [] m js l first second = subst (λ k. AppearInOrder k js l) (sym first) second
appear_on n (k ∷ ks) m js l first second = elim first [
  | inl h ↦ inl (h.0, appear_on n ks m js l h.1 second)
  | inr h ↦ inr (h.0, appear_on (n + 1) ks m js l h.1 second)
]

appear_most : (n : ℕ) (ks : List ℕ) (m : ℕ) → AppearInOrder n ks m → n ≤ m
appear_most n [] m is = omega (arith, is)
appear_most n (k ∷ ks) m is = elim is [
  | inl h ↦ appear_most n ks m h.1
  | inr h ↦ let more = appear_most (n + 1) ks m h.1 in omega (arith, more)
]

pub grows_on : (a b c : List Symbol) → StartsWith a b → StartsWith b c → StartsWith a c
grows_on a b c g h = (g.0 ++ h.0, h.1 ∙ ap (λ xs. xs ++ h.0) g.1 ∙ append_assoc a g.0 h.0)

pub literal_still : (b c : List Symbol) (l : Lit) → StartsWith b c → l.variable.0 < length b → literal_of b l ≡ literal_of c l
literal_still b c l g within =
    let make : Symbol → Literal = λ x. record { what = x; sign = l.sign } in
    let here : symbol_at (b ++ g.0) l.variable.0 ≡ symbol_at b l.variable.0 = get_or_append_left b g.0 (node 0 []) l.variable.0 within in
    ap make (sym here ∙ ap (λ (xs : List Symbol). symbol_at xs l.variable.0) (sym g.1))

-- symbols keep their numbers where more are added
pub literals_still : (n : ℕ) (b c : List Symbol) (lits : List Lit) → StartsWith b c → AppearInOrder n (map place_of lits) (length b) → map (literal_of b) lits ≡ map (literal_of c) lits
literals_still n b c [] g is = refl
literals_still n b c (l ∷ ls) g is = elim is [
  | inl h ↦
      let most = appear_most n (map place_of ls) (length b) h.1 in
      ap (λ k. k ∷ map (literal_of b) ls) (literal_still b c l g (omega (arith, most, h.0))) ∙ ap (λ ks. literal_of c l ∷ ks) (literals_still n b c ls g h.1)
  | inr h ↦
      let most = appear_most (n + 1) (map place_of ls) (length b) h.1 in
      ap (λ k. k ∷ map (literal_of b) ls) (literal_still b c l g (omega (arith, most, h.0))) ∙ ap (λ ks. literal_of c l ∷ ks) (literals_still (n + 1) b c ls g h.1)
]

module _ (sheet : Sheet) where
  pub none_numbered : (old : List Symbol) → AreNumbered sheet [] old old []
  none_numbered old = record { grows = ([], sym (append-nil old)); named = tt; appear = refl }

  pub more_numbered : (ws : List WrittenLiteral) (w : WrittenLiteral) (a b c : List Symbol) (lits : List Lit) (l : Lit) → AreNumbered sheet ws a b lits → AreNumbered sheet (w ∷ []) b c (l ∷ []) → AreNumbered sheet (ws ++ w ∷ []) a c (lits ++ l ∷ [])
  more_numbered ws w a b c lits l first second = record {
    grows = grows_on a b c first.grows second.grows;
    named =
        let before = subst (AreNamedEach (IsLiteralNamed sheet) ws) (literals_still (length a) b c lits second.grows first.appear) first.named in
        subst (AreNamedEach (IsLiteralNamed sheet) (ws ++ w ∷ [])) (sym (map-append (literal_of c) lits (l ∷ [])))
        (joined (IsLiteralNamed sheet) ws w (map (literal_of c) lits) (literal_of c l) before second.named.0);
    appear = subst (λ ks. AppearInOrder (length a) ks (length c)) (sym (map-append place_of lits (l ∷ [])))
        (appear_on (length a) (map place_of lits) (length b) (place_of l ∷ []) (length c) first.appear second.appear);
  }

  module _ (ts : List LiteralTree) (i : ℕ) where
    pub literal_more : (t : LiteralTree) (a b c : List Symbol) (lits : List Lit) (l : Lit) (now : List Lit) → i < length ts → t ≡ get_or ts i t → now ≡ lits ++ l ∷ []
        → AreNumbered sheet (map tree.literal_of (take i ts)) a b lits → AreNumbered sheet (tree.literal_of t ∷ []) b c (l ∷ []) → AreNumbered sheet (map tree.literal_of (take (i + 1) ts)) a c now
    literal_more t a b c lits l now inside is pushed first second =
        subst (AreNumbered sheet (map tree.literal_of (take (i + 1) ts)) a c) (sym pushed)
        (subst (λ ws. AreNumbered sheet ws a c (lits ++ l ∷ [])) (sym (front (IsLiteralNamed sheet) tree.literal_of ts i t inside is))
        (more_numbered (map tree.literal_of (take i ts)) (tree.literal_of t) a b c lits l first second))

    pub literal_none : (t : LiteralTree) → i < length ts → t ≡ get_or ts i t → ((l : Literal) → IsLiteralNamed sheet (tree.literal_of t) l → ⊥) → (ls : List Literal) → AreNamedEach (IsLiteralNamed sheet) (map tree.literal_of ts) ls → ⊥
    literal_none t inside is never = fails (IsLiteralNamed sheet) tree.literal_of ts i t inside is never

    pub literals_all : (a b : List Symbol) (lits : List Lit) → length ts ≤ i → AreNumbered sheet (map tree.literal_of (take i ts)) a b lits → AreNumbered sheet (map tree.literal_of ts) a b lits
    literals_all a b lits over is = subst (λ xs. AreNumbered sheet (map tree.literal_of xs) a b lits) (take_all i ts over) is

-- ---- what is found

pub of_some : {A : Type 0} (N : Type 0) (S : A → Type 0) (o : Option A) (x : A) → o ≡ Some x → MatchOption o N S → S x
of_some N S o x is told = subst (λ q. MatchOption q N S) is told

pub of_none : {A : Type 0} (N : Type 0) (S : A → Type 0) (o : Option A) → o ≡ None → MatchOption o N S → N
of_none N S o is told = subst (λ q. MatchOption q N S) is told
