-- Lists of numbers, by computing: which numbers they have, and whether these rise.
use Rattle.std.proofs.Common.{◌≡◌, ℕ, ◌<◌, inl, inr, Bool, true, false, ◌&&◌, ◌||◌, ◌==◌, ltb, arith, List, [], ◌∷◌, AllPairs, Contains, sym, ◌∙◌, subst}
use Rattle.std.specs.Bool.{Decides}
use Rattle.std.proofs.lemmas.Bool.{false≢true, ltb-true}
use Rattle.std.proofs.lemmas.Bool.Decides.{Decides-eqb, Decides-like, Decides-or}
use Rattle.std.proofs.lemmas.List.Kept.{AllPairs-cons}
use Rattle.pc_lemmas.proofs.Elements.{contains_first, contains_later, contains_cases, contains_none, all_from}
use Rattle.pc_worked_laws.proofs.Computing.{both}

abbrev pub has_number : List ℕ → ℕ → Bool
has_number [] n = false
has_number (k ∷ ks) n = (k == n) || has_number ks n

number_decides : (ks : List ℕ) (n : ℕ) → Decides (has_number ks n) (Contains ks n)
number_decides [] n = (λ e. absurd (false≢true e), λ c. absurd (contains_none n c))
number_decides (k ∷ ks) n =
    Decides-like (has_number (k ∷ ks) n)
    (λ h. elim h [ inl is ↦ subst (Contains (k ∷ ks)) is (contains_first k ks) | inr later ↦ contains_later k ks n later ])
    (contains_cases k ks n) (Decides-or (k == n) (has_number ks n) (Decides-eqb k n) (number_decides ks n))

pub there : (ks : List ℕ) (n : ℕ) → has_number ks n ≡ true → Contains ks n
there ks n is = (number_decides ks n).0 is

pub not_there : (ks : List ℕ) (n : ℕ) → has_number ks n ≡ false → ¬ Contains ks n
not_there ks n fails has = false≢true (sym fails ∙ (number_decides ks n).1 has)

-- each number passes
abbrev pub every : (ℕ → Bool) → List ℕ → Bool
every p [] = true
every p (k ∷ ks) = p k && every p ks

pub every_is : (p : ℕ → Bool) (ks : List ℕ) → every p ks ≡ true → (k : ℕ) → Contains ks k → p k ≡ true
every_is p [] all k has = absurd (contains_none k has)
every_is p (j ∷ js) all k has =
    let parts = both (p j) (every p js) all in
    elim (contains_cases j js k has) [ inl is ↦ subst (λ i. p i ≡ true) is parts.0 | inr later ↦ every_is p js parts.1 k later ]

abbrev pub IsLess : ℕ → ℕ → Type 0
IsLess j k = j < k

abbrev pub rise : List ℕ → Bool
rise [] = true
rise (k ∷ ks) = every (λ j. ltb k j) ks && rise ks

less : (j k : ℕ) → ltb j k ≡ true → j < k
less j k is = ltb-true j k is

pub in_order : (ks : List ℕ) → rise ks ≡ true → AllPairs IsLess ks
in_order [] all = none_there
  where
    none_there : AllPairs IsLess []
    none_there i j d below within = absurd (omega (arith, below, within))
in_order (k ∷ ks) all =
    let parts = both (every (λ j. ltb k j) ks) (rise ks) all in
    AllPairs-cons IsLess k ks (all_from (IsLess k) ks (λ j has. less k j (every_is (λ i. ltb k i) ks parts.0 j has))) (in_order ks parts.1)
