-- A relation that holds of each two elements, whichever stands first, holds of them in each order.
use Rattle.std.proofs.Common.{◌≡◌, ◌≢◌, ℕ, ◌<◌, ◌⊎◌, inl, inr, List, length, get_or, set, swap, AllPairs, arith, ap, refl, sym, ◌∙◌, subst}
use Rattle.std.proofs.lemmas.Bool.{cases_eq, cases_lt}
use Rattle.std.proofs.lemmas.List.{get_or-set_same, get_or-set_other, length-set}
use Rattle.std.proofs.lemmas.List.Edits.{swap_is}
use Rattle.std.proofs.lemmas.List.Sorted.{IsPermutation-keeps}
use Rattle.std.specs.List.Sorted.{IsPermutation}

-- where the element at k stood, before those at i and j changed places
abbrev StoodAt : ℕ → ℕ → ℕ → ℕ → Type 0
StoodAt i j k m = ((k ≡ j) × (m ≡ i)) ⊎ (((k ≢ j) × (k ≡ i) × (m ≡ j)) ⊎ ((k ≢ j) × (k ≢ i) × (m ≡ k)))

apart : (i j k l m n : ℕ) → StoodAt i j k m → StoodAt i j l n → k < l → m ≢ n
apart i j k l m n (inl (a, b)) (inl (c, d)) less = λ (is : m ≡ n). omega (arith, a, c, less)
apart i j k l m n (inl (a, b)) (inr (inl (c, d, e))) less = λ (is : m ≡ n). omega (arith, a, b, d, e, is, less)
apart i j k l m n (inl (a, b)) (inr (inr (c, d, e))) less = λ (is : m ≡ n). d (omega (arith, b, e, is))
apart i j k l m n (inr (inl (a, b, f))) (inl (c, d)) less = λ (is : m ≡ n). omega (arith, b, f, c, d, is, less)
apart i j k l m n (inr (inl (a, b, f))) (inr (inl (c, d, e))) less = λ (is : m ≡ n). omega (arith, b, d, less)
apart i j k l m n (inr (inl (a, b, f))) (inr (inr (c, d, e))) less = λ (is : m ≡ n). c (omega (arith, f, e, is))
apart i j k l m n (inr (inr (a, b, f))) (inl (c, d)) less = λ (is : m ≡ n). b (omega (arith, f, d, is))
apart i j k l m n (inr (inr (a, b, f))) (inr (inl (c, d, e))) less = λ (is : m ≡ n). a (omega (arith, f, e, is))
apart i j k l m n (inr (inr (a, b, f))) (inr (inr (c, d, e))) less = λ (is : m ≡ n). omega (arith, f, e, is, less)

module _ {X : Type 0} (R : X → X → Type 0) (back : (x y : X) → R x y → R y x) where
  module _ (xs : List X) (i j : ℕ) (i_below : i < length xs) (j_below : j < length xs) where
    stood : (k : ℕ) (d : X) → k < length xs → (m : ℕ) × (m < length xs) × (get_or (swap xs i j) k d ≡ get_or xs m d) × StoodAt i j k m
    stood k d below = elim (cases_eq k j) [
      | inl at_j ↦ (i, i_below, swapped ∙ (ap (λ n. get_or (set (set xs i (get_or xs j d)) j (get_or xs i d)) n d) at_j ∙ get_or-set_same (set xs i (get_or xs j d)) j (get_or xs i d) d (omega (arith, j_below, length-set xs i (get_or xs j d)))), inl (at_j, refl))
      | inr not_j ↦ elim (cases_eq k i) [
        | inl at_i ↦ (j, j_below, swapped ∙ (get_or-set_other (set xs i (get_or xs j d)) j k (get_or xs i d) d not_j ∙ (ap (λ n. get_or (set xs i (get_or xs j d)) n d) at_i ∙ get_or-set_same xs i (get_or xs j d) d i_below)), inr (inl (not_j, at_i, refl)))
        | inr not_i ↦ (k, below, swapped ∙ (get_or-set_other (set xs i (get_or xs j d)) j k (get_or xs i d) d not_j ∙ get_or-set_other xs i k (get_or xs j d) d not_i), inr (inr (not_j, not_i, refl)))
      ]
    ]
      where
        swapped : get_or (swap xs i j) k d ≡ get_or (set (set xs i (get_or xs j d)) j (get_or xs i d)) k d
        swapped = ap (λ ys. get_or ys k d) (sym (swap_is xs i j d i_below j_below))

    as_long : (d : X) → length (swap xs i j) ≡ length xs
    as_long d = ap length (sym (swap_is xs i j d i_below j_below)) ∙ (length-set (set xs i (get_or xs j d)) j (get_or xs i d) ∙ length-set xs i (get_or xs j d))

    swapped_pairs : AllPairs R xs → AllPairs R (swap xs i j)
    swapped_pairs all k l d less within =
        let high : l < length xs = omega (arith, within, as_long d) in
        let x = stood k d (omega (arith, less, high)) in
        let y = stood l d high in
        subst (λ a. R a (get_or (swap xs i j) l d)) (sym x.2) (subst (R (get_or xs x.0 d)) (sym y.2) (by x.0 y.0 x.1 y.1 (apart i j k l x.0 y.0 x.3 y.3 less)))
      where
        by : (m n : ℕ) → m < length xs → n < length xs → m ≢ n → R (get_or xs m d) (get_or xs n d)
        by m n m_below n_below other = elim (cases_lt m n) [
          | inl before ↦ all m n d before n_below
          | inr behind ↦ back (get_or xs n d) (get_or xs m d) (all n m d (omega (arith, behind, other)) m_below)
        ]

  pub pairs_moved : (xs ys : List X) → AllPairs R xs → IsPermutation xs ys → AllPairs R ys
  pairs_moved xs ys all moved = IsPermutation-keeps xs (AllPairs R) all (λ l i j i_below j_below h. swapped_pairs l i j i_below j_below h) ys moved
