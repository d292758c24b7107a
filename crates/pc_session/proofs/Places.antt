-- Places in lists.
use Rattle.std.proofs.Common.{◌≡◌, ◌≢◌, ℕ, zero, suc, ◌<◌, ◌⊎◌, inl, inr, List, [], ◌∷◌, ◌++◌, length, get_or, set, Contains, Some, slice_get, arith, ap, refl, subst}
use Rattle.pc_lemmas.proofs.Elements.{contains_cases, contains_first, contains_later}
use Rattle.pc_lemmas.proofs.Options.{same_some}
use Rattle.pc_theory.proofs.Lists.{none_some}

pub at_get : {X : Type 0} (xs : List X) (i : ℕ) (x d : X) → slice_get xs i ≡ Some x → get_or xs i d ≡ x
at_get [] i x d is = absurd (none_some is)
at_get (y ∷ xs) zero x d is = same_some is
at_get (y ∷ xs) (suc i) x d is = at_get xs i x d is

pub get_at : {X : Type 0} (xs : List X) (i : ℕ) (d : X) → i < length xs → slice_get xs i ≡ Some (get_or xs i d)
get_at [] i d below = absurd (omega (arith, below))
get_at (x ∷ xs) zero d below = refl
get_at (x ∷ xs) (suc i) d below = get_at xs i d (omega (arith, below))

pub in_append : {X : Type 0} (xs ys : List X) (x : X) → Contains (xs ++ ys) x → Contains xs x ⊎ Contains ys x
in_append [] ys x h = inr h
in_append (z ∷ xs) ys x h = elim (contains_cases z (xs ++ ys) x h) [
  | inl is ↦ inl (subst (Contains (z ∷ xs)) is (contains_first z xs))
  | inr later ↦ elim (in_append xs ys x later) [ inl l ↦ inl (contains_later z xs x l) | inr r ↦ inr r ]
]

-- ---- another element at one place

pub get_set_same : {X : Type 0} (xs : List X) (i : ℕ) (v d : X) → i < length xs → get_or (set xs i v) i d ≡ v
get_set_same [] i v d below = absurd (omega (arith, below))
get_set_same (x ∷ xs) zero v d below = refl
get_set_same (x ∷ xs) (suc i) v d below = get_set_same xs i v d (omega (arith, below))

pub get_set_other : {X : Type 0} (xs : List X) (i j : ℕ) (v d : X) → j ≢ i → get_or (set xs i v) j d ≡ get_or xs j d
get_set_other [] i j v d other = refl
get_set_other (x ∷ xs) zero zero v d other = absurd (other refl)
get_set_other (x ∷ xs) zero (suc j) v d other = refl
get_set_other (x ∷ xs) (suc i) zero v d other = refl
get_set_other (x ∷ xs) (suc i) (suc j) v d other = get_set_other xs i j v d (λ is. other (ap suc is))

pub set_length : {X : Type 0} (xs : List X) (i : ℕ) (v : X) → length (set xs i v) ≡ length xs
set_length [] i v = refl
set_length (x ∷ xs) zero v = refl
set_length (x ∷ xs) (suc i) v = omega (arith, set_length xs i v)
