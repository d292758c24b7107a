-- What rows turned round contain.
use Rattle.std.proofs.Common.{◌≡◌, ℕ, zero, suc, ◌+◌, ◌<◌, inl, inr, ◌==◌, ◌||◌, Bool, true, false, cond, List, [], ◌∷◌, AllPairs, Contains, Some, slice_get, eqb-true, eq-eqb, refl, sym, ◌∙◌, subst, arith}
use Rattle.std.proofs.lemmas.Bool.{false≢true}
use Rattle.std.proofs.lemmas.List.Kept.{AllPairs-cons}
use Rattle.pc_parts.specs.PartSheets.{is_among}
use Rattle.pc_lemmas.proofs.Elements.{all_from, contains_first, contains_later, contains_cases, contains_none}
use Rattle.pc_components.specs.inside.Turned.{places_from}

-- among the numbers of a row
pub among : (row : List ℕ) (i : ℕ) → Contains row i → is_among row i ≡ true
among [] i h = absurd (contains_none i h)
among (n ∷ ns) i h = by (n == i) refl (among ns i)
  where
    by : (b : Bool) → (n == i) ≡ b → (Contains ns i → is_among ns i ≡ true) → (b || is_among ns i) ≡ true
    by true e rest = refl
    by false e rest = elim (contains_cases n ns i h) [
      | inl same ↦ absurd (false≢true (sym e ∙ eq-eqb n i same))
      | inr later ↦ rest later
    ]

pub is_there : (row : List ℕ) (i : ℕ) → is_among row i ≡ true → Contains row i
is_there [] i h = absurd (false≢true h)
is_there (n ∷ ns) i h = by (n == i) refl h (is_there ns i)
  where
    by : (b : Bool) → (n == i) ≡ b → (b || is_among ns i) ≡ true → (is_among ns i ≡ true → Contains ns i) → Contains (n ∷ ns) i
    by true e g rest = subst (Contains (n ∷ ns)) (eqb-true n i e) (contains_first n ns)
    by false e g rest = contains_later n ns i (rest g)

pub places_are : (from : ℕ) (rows : List (List ℕ)) (i k : ℕ) → Contains (places_from from rows i) k → (j : ℕ) × (k ≡ from + j) × (row : List ℕ) × (slice_get rows j ≡ Some row) × Contains row i
places_are from [] i k h = absurd (contains_none k h)
places_are from (row ∷ rows) i k h = by (places_are (from + 1) rows i k) (is_among row i) refl h
  where
    by : (Contains (places_from (from + 1) rows i) k → (j : ℕ) × (k ≡ from + 1 + j) × (r : List ℕ) × (slice_get rows j ≡ Some r) × Contains r i) → (b : Bool) → is_among row i ≡ b
        → Contains (cond b (from ∷ places_from (from + 1) rows i) (places_from (from + 1) rows i)) k → (j : ℕ) × (k ≡ from + j) × (r : List ℕ) × (slice_get (row ∷ rows) j ≡ Some r) × Contains r i
    by rest true e g = elim (contains_cases from (places_from (from + 1) rows i) k g) [
      | inl same ↦ (0, omega (arith, same), row, refl, is_there row i e)
      | inr there ↦ let found = rest there in (suc found.0, omega (arith, found.1), found.2, found.3, found.4)
    ]
    by rest false e g = let found = rest g in (suc found.0, omega (arith, found.1), found.2, found.3, found.4)

pub are_places : (from : ℕ) (rows : List (List ℕ)) (i j : ℕ) (row : List ℕ) → slice_get rows j ≡ Some row → Contains row i → Contains (places_from from rows i) (from + j)
are_places from [] i j row at h = absurd (cc)
are_places from (r ∷ rows) i zero row at h =
    let same : r ≡ row = cc in
    let there : is_among r i ≡ true = among r i (subst (λ x. Contains x i) (sym same) h) in
    let e : from ≡ from + 0 = omega arith in
    subst (λ b. Contains (cond b (from ∷ places_from (from + 1) rows i) (places_from (from + 1) rows i)) (from + 0)) (sym there)
    (subst (Contains (from ∷ places_from (from + 1) rows i)) e (contains_first from (places_from (from + 1) rows i)))
are_places from (r ∷ rows) i (suc j) row at h = by (is_among r i) (subst (Contains (places_from (from + 1) rows i)) (let e : from + 1 + j ≡ from + suc j = omega arith in e) (are_places (from + 1) rows i j row at h))
  where
    by : (b : Bool) → Contains (places_from (from + 1) rows i) (from + suc j) → Contains (cond b (from ∷ places_from (from + 1) rows i) (places_from (from + 1) rows i)) (from + suc j)
    by true g = contains_later from (places_from (from + 1) rows i) (from + suc j) g
    by false g = g

-- ---- in order

-- all that follow are greater
order_cons : (n : ℕ) (ns : List ℕ) → ((m : ℕ) → Contains ns m → n < m) → AllPairs (λ j k. j < k) ns → AllPairs (λ j k. j < k) (n ∷ ns)
order_cons n ns h order = AllPairs-cons (λ j k. j < k) n ns (all_from (λ m. n < m) ns h) order

pub in_order : (from : ℕ) (rows : List (List ℕ)) (i : ℕ) → AllPairs (λ j k. j < k) (places_from from rows i)
in_order from [] i = λ j k d below within. absurd (omega (arith, within))
in_order from (row ∷ rows) i = by (is_among row i) (in_order (from + 1) rows i) (λ m h. let found = places_are (from + 1) rows i m h in omega (arith, found.1))
  where
    by : (b : Bool) → AllPairs (λ j k. j < k) (places_from (from + 1) rows i) → ((m : ℕ) → Contains (places_from (from + 1) rows i) m → from < m) → AllPairs (λ j k. j < k) (cond b (from ∷ places_from (from + 1) rows i) (places_from (from + 1) rows i))
    by true order after = order_cons from (places_from (from + 1) rows i) after order
    by false order after = order
