-- A computation that finds good steps, for worked certificates.
use Rattle.std.proofs.Common.{◌≡◌, ℕ, inl, inr, Bool, true, false, not, ◌&&◌, ◌==◌, List, [], ◌∷◌, ◌++◌, Contains, ap, refl, sym, ◌∙◌, subst, eqb-true, eq-eqb}
use Rattle.std.specs.List.{list_any, filter}
use Rattle.std.proofs.lemmas.Bool.{cases_Bool, false≢true, or_cases, or_left, or_right, and_from, and_parts, not_from_false}
use Rattle.pc_lemmas.proofs.Elements.{contains_first, contains_later, contains_cases, contains_none, kept, kept_is}
use Rattle.pc_lits.specs.Steps.{Refutes}
use Rattle.pc_accept.specs.Literals.{Symbol, pair, node, Literal, opposite}

-- ---- the same literal

abbrev pub same_numbers : List ℕ → List ℕ → Bool
same_numbers [] [] = true
same_numbers [] (y ∷ ys) = false
same_numbers (x ∷ xs) [] = false
same_numbers (x ∷ xs) (y ∷ ys) = (x == y) && same_numbers xs ys

abbrev pub same_bool : Bool → Bool → Bool
same_bool true b = b
same_bool false b = not b

abbrev pub same_symbol : Symbol → Symbol → Bool
same_symbol (pair c v) (pair d w) = (c.0 == d.0) && (v.0 == w.0)
same_symbol (pair c v) (node r path) = false
same_symbol (node r path) (pair c v) = false
same_symbol (node r path) (node q way) = (r == q) && same_numbers path way

abbrev pub same_literal : Literal → Literal → Bool
same_literal l m = same_bool l.sign m.sign && same_symbol l.what m.what

numbers_are : (xs ys : List ℕ) → same_numbers xs ys ≡ true → xs ≡ ys
numbers_are [] [] h = refl
numbers_are [] (y ∷ ys) h = absurd (false≢true h)
numbers_are (x ∷ xs) [] h = absurd (false≢true h)
numbers_are (x ∷ xs) (y ∷ ys) h =
    let both = and_parts (x == y) (same_numbers xs ys) h in
    ap (λ z. z ∷ xs) (eqb-true x y both.0) ∙ ap (λ zs. y ∷ zs) (numbers_are xs ys both.1)

bool_is : (b c : Bool) → same_bool b c ≡ true → b ≡ c
bool_is true true h = refl
bool_is true false h = absurd (false≢true h)
bool_is false true h = absurd (false≢true h)
bool_is false false h = refl

symbol_is : (x y : Symbol) → same_symbol x y ≡ true → x ≡ y
symbol_is (pair c v) (pair d w) h =
    let both = and_parts (c.0 == d.0) (v.0 == w.0) h in
    let make : ℕ → ℕ → Symbol = λ m n. pair (record { 0 = m }) (record { 0 = n }) in
    ap (λ m. make m v.0) (eqb-true c.0 d.0 both.0) ∙ ap (make d.0) (eqb-true v.0 w.0 both.1)
symbol_is (pair c v) (node r path) h = absurd (false≢true h)
symbol_is (node r path) (pair c v) h = absurd (false≢true h)
symbol_is (node r path) (node q way) h =
    let both = and_parts (r == q) (same_numbers path way) h in
    ap (λ m. node m path) (eqb-true r q both.0) ∙ ap (node q) (numbers_are path way both.1)

literal_is : (l m : Literal) → same_literal l m ≡ true → l ≡ m
literal_is l m h =
    let both = and_parts (same_bool l.sign m.sign) (same_symbol l.what m.what) h in
    let make : Symbol → Bool → Literal = λ x b. record { what = x; sign = b } in
    ap (λ x. make x l.sign) (symbol_is l.what m.what both.1) ∙ ap (make m.what) (bool_is l.sign m.sign both.0)

numbers_itself : (xs : List ℕ) → same_numbers xs xs ≡ true
numbers_itself [] = refl
numbers_itself (x ∷ xs) = and_from (x == x) (same_numbers xs xs) (eq-eqb x x refl) (numbers_itself xs)

bool_itself : (b : Bool) → same_bool b b ≡ true
bool_itself true = refl
bool_itself false = refl

symbol_itself : (x : Symbol) → same_symbol x x ≡ true
symbol_itself (pair c v) = and_from (c.0 == c.0) (v.0 == v.0) (eq-eqb c.0 c.0 refl) (eq-eqb v.0 v.0 refl)
symbol_itself (node r path) = and_from (r == r) (same_numbers path path) (eq-eqb r r refl) (numbers_itself path)

literal_itself : (l : Literal) → same_literal l l ≡ true
literal_itself l = and_from (same_bool l.sign l.sign) (same_symbol l.what l.what) (bool_itself l.sign) (symbol_itself l.what)

-- ---- among others

abbrev pub is_among : List Literal → Literal → Bool
is_among ls l = list_any (same_literal l) ls

among_contains : (ls : List Literal) (l : Literal) → is_among ls l ≡ true → Contains ls l
among_contains [] l h = absurd (false≢true h)
among_contains (m ∷ ms) l h = elim (or_cases (same_literal l m) (is_among ms l) h) [
  | inl here ↦ subst (Contains (m ∷ ms)) (sym (literal_is l m here)) (contains_first m ms)
  | inr later ↦ contains_later m ms l (among_contains ms l later)
]

contains_among : (ls : List Literal) (l : Literal) → Contains ls l → is_among ls l ≡ true
contains_among [] l h = absurd (contains_none l h)
contains_among (m ∷ ms) l h = elim (contains_cases m ms l h) [
  | inl is ↦ or_left (same_literal l m) (is_among ms l) (subst (λ k. same_literal l k ≡ true) (sym is) (literal_itself l))
  | inr later ↦ or_right (same_literal l m) (is_among ms l) (contains_among ms l later)
]

-- ---- hints in order

abbrev pub open_in : List Literal → List Literal → List Literal
open_in falses clause = filter (λ l. not (is_among falses l)) clause

abbrev pub are_none : List Literal → Bool
are_none [] = true
are_none (l ∷ ls) = false

-- of one literal alone
abbrev pub of_one : List Literal → (Literal → Bool) → Bool
of_one [] f = false
of_one (l ∷ []) f = f l
of_one (l ∷ m ∷ ls) f = false

-- a first hint, and then the others
abbrev pub refutes : List Literal → List Literal → List (List Literal) → Bool
refutes falses hint [] = are_none (open_in falses hint)
refutes falses hint (next ∷ hints) = of_one (open_in falses hint) (λ l. refutes (falses ++ opposite l ∷ []) next hints)

closed : (falses clause : List Literal) (l : Literal) → Contains clause l → ¬ Contains (open_in falses clause) l → Contains falses l
closed falses clause l has none = elim (cases_Bool (is_among falses l)) [
  | inl is ↦ among_contains falses l is
  | inr lacks ↦ absurd (none (kept (λ m. not (is_among falses m)) clause l has (not_from_false (is_among falses l) lacks)))
]

opened : (falses clause : List Literal) (l : Literal) → Contains (open_in falses clause) l → Contains clause l × (¬ Contains falses l)
opened falses clause l has =
    let k = kept_is (λ m. not (is_among falses m)) clause l has in
    (k.0, λ c. false≢true (sym (ap not (contains_among falses l c)) ∙ k.1))

none_open : (ls : List Literal) → are_none ls ≡ true → (l : Literal) → ¬ Contains ls l
none_open [] h l has = contains_none l has
none_open (m ∷ ms) h l has = false≢true h

one_open : (ls : List Literal) (f : Literal → Bool) → of_one ls f ≡ true → (l : Literal) × (ls ≡ l ∷ []) × (f l ≡ true)
one_open [] f h = absurd (false≢true h)
one_open (l ∷ []) f h = (l, refl, h)
one_open (l ∷ m ∷ ls) f h = absurd (false≢true h)

pub refuted : (falses hint : List Literal) (hints : List (List Literal)) → refutes falses hint hints ≡ true → Refutes opposite falses (hint ∷ hints)
refuted falses hint [] h = λ m has. closed falses hint m has (none_open (open_in falses hint) h m)
refuted falses hint (next ∷ hints) h =
    let one = one_open (open_in falses hint) (λ l. refutes (falses ++ opposite l ∷ []) next hints) h in
    let here = opened falses hint one.0 (subst (λ ls. Contains ls one.0) (sym one.1) (contains_first one.0 [])) in (
      one.0,
      (
        here.0,
        here.1,
        λ m has other. closed falses hint m has (λ c. elim (contains_cases one.0 [] m (subst (λ ls. Contains ls m) one.1 c)) [ inl same ↦ other (sym same) | inr later ↦ contains_none m later ]),
      ),
      refuted (falses ++ opposite one.0 ∷ []) next hints one.2,
    )
