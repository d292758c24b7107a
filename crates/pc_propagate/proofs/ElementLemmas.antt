-- Where elements of lists come from and go to.
use Rattle.std.proofs.Common.{◌≡◌, ℕ, ◌+◌, ◌-◌, ◌<◌, ◌⊎◌, inl, inr, zero, suc, List, [], ◌∷◌, ◌++◌, Some, length, get_or, set, slice_get, refl, ap, sym, ◌∙◌, arith, ⊎_elim}
use Rattle.std.specs.List.{swap, swap_remove, Contains}
use Rattle.std.proofs.lemmas.Bool.{cases_eq}
use Rattle.std.proofs.lemmas.List.{length-set, length-take, get_or-take, get_or-set_same, get_or-set_other, get_or_default}
use Rattle.std.proofs.lemmas.List.Edits.{swap_is, length-swap}
use Rattle.std.proofs.lemmas.Option.{get_or_from_slice_get, slice_get_read, slice_get_within}

module _ {X : Type 0} where
  to_at : (xs : List X) (j : ℕ) (v : X) → j < length xs → get_or xs j v ≡ v → slice_get xs j ≡ Some v
  to_at xs j v within is = slice_get_read xs (length xs) j v refl within (sym is)

  pub size_left : (xs : List X) (i : ℕ) (d : X) → i < length xs → length (swap_remove xs i d) + 1 ≡ length xs
  size_left xs i d within = omega (arith, within, length-take (length xs - 1) (set xs i (get_or xs (length xs - 1) d)), length-set xs i (get_or xs (length xs - 1) d))

  -- what is left was there
  pub left_from : (xs : List X) (i j : ℕ) (d v : X) → i < length xs → slice_get (swap_remove xs i d) j ≡ Some v → (k : ℕ) × (slice_get xs k ≡ Some v)
  left_from xs i j d v within is =
      let below : j + 1 < length xs + 0 = omega (arith, slice_get_within (swap_remove xs i d) j v is, size_left xs i d within) in
      let read : get_or (set xs i (get_or xs (length xs - 1) d)) j v ≡ v = sym (get_or-take (length xs - 1) (set xs i (get_or xs (length xs - 1) d)) j v (omega (arith, below))) ∙ get_or_from_slice_get (swap_remove xs i d) j v v is in
      ⊎_elim
      (λ same. (
        length xs - 1,
        to_at xs (length xs - 1) v (omega (arith, within))
            (get_or_default xs (length xs - 1) v d (omega (arith, within)) ∙ sym (get_or-set_same xs i (get_or xs (length xs - 1) d) v within)
            ∙ ap (λ (n : ℕ). get_or (set xs i (get_or xs (length xs - 1) d)) n v) (sym same) ∙ read),
      ))
      (λ other. (j, to_at xs j v (omega (arith, below)) (sym (get_or-set_other xs i j (get_or xs (length xs - 1) d) v other) ∙ read)))
      (cases_eq j i)

  -- what stood elsewhere is left
  pub left_still : (xs : List X) (i j : ℕ) (d v : X) → i < length xs → slice_get xs j ≡ Some v → (j ≡ i → ⊥) → (k : ℕ) × (slice_get (swap_remove xs i d) k ≡ Some v)
  left_still xs i j d v within is other =
      let there : j < length xs = slice_get_within xs j v is in
      let size = size_left xs i d within in
      ⊎_elim
      (λ last.
      let before : i < length xs - 1 = omega (arith, within, last, there, other) in (
        i,
        to_at (swap_remove xs i d) i v (omega (arith, size, before))
            (get_or-take (length xs - 1) (set xs i (get_or xs (length xs - 1) d)) i v before ∙ get_or-set_same xs i (get_or xs (length xs - 1) d) v within
            ∙ ap (λ (n : ℕ). get_or xs n d) (sym last) ∙ get_or_from_slice_get xs j v d is),
      ))
      (λ early.
      let before : j < length xs - 1 = omega (arith, there, early) in (
        j,
        to_at (swap_remove xs i d) j v (omega (arith, size, before))
            (get_or-take (length xs - 1) (set xs i (get_or xs (length xs - 1) d)) j v before ∙ get_or-set_other xs i j (get_or xs (length xs - 1) d) v other ∙ get_or_from_slice_get xs j v v is),
      ))
      (cases_eq j (length xs - 1))

  -- one more at the end
  pub come_still : (xs : List X) (j : ℕ) (v w : X) → slice_get xs j ≡ Some v → slice_get (xs ++ w ∷ []) j ≡ Some v
  come_still (x ∷ xs) zero v w is = is
  come_still (x ∷ xs) (suc j) v w is = come_still xs j v w is
  come_still [] j v w is = absurd (cc is)

  pub come_last : (xs : List X) (w : X) → slice_get (xs ++ w ∷ []) (length xs) ≡ Some w
  come_last [] w = refl
  come_last (x ∷ xs) w = come_last xs w

  pub come_from : (xs : List X) (j : ℕ) (v w : X) → slice_get (xs ++ w ∷ []) j ≡ Some v → (slice_get xs j ≡ Some v) ⊎ (w ≡ v)
  come_from [] zero v w is = inr (cc is)
  come_from [] (suc j) v w is = absurd (cc is)
  come_from (x ∷ xs) zero v w is = inl is
  come_from (x ∷ xs) (suc j) v w is = come_from xs j v w is

  -- two elements change their places
  pub swap_from : (xs : List X) (i j : ℕ) (x : X) → i < length xs → j < length xs → Contains (swap xs i j) x → Contains xs x
  swap_from xs i j x first second c =
      let read : get_or (set (set xs i (get_or xs j x)) j (get_or xs i x)) c.0 x ≡ x = ap (λ (ls : List X). get_or ls c.0 x) (swap_is xs i j x first second) ∙ c.2 in
      let within : c.0 < length xs = omega (arith, c.1, length-swap xs i j) in
      ⊎_elim
      (λ at_j. (
        i,
        first,
        sym (get_or-set_same (set xs i (get_or xs j x)) j (get_or xs i x) x (omega (arith, second, length-set xs i (get_or xs j x))))
            ∙ ap (λ (n : ℕ). get_or (set (set xs i (get_or xs j x)) j (get_or xs i x)) n x) (sym at_j) ∙ read,
      ))
      (λ not_j. let less = sym (get_or-set_other (set xs i (get_or xs j x)) j c.0 (get_or xs i x) x not_j) ∙ read in ⊎_elim
      (λ at_i. (j, second, sym (get_or-set_same xs i (get_or xs j x) x first) ∙ ap (λ (n : ℕ). get_or (set xs i (get_or xs j x)) n x) (sym at_i) ∙ less))
      (λ not_i. (c.0, within, sym (get_or-set_other xs i c.0 (get_or xs j x) x not_i) ∙ less))
      (cases_eq c.0 i))
      (cases_eq c.0 j)

  pub swap_other : (xs : List X) (i j k : ℕ) (d : X) → i < length xs → j < length xs → (k ≡ i → ⊥) → (k ≡ j → ⊥) → get_or (swap xs i j) k d ≡ get_or xs k d
  swap_other xs i j k d first second not_i not_j =
      ap (λ (ls : List X). get_or ls k d) (sym (swap_is xs i j d first second))
      ∙ get_or-set_other (set xs i (get_or xs j d)) j k (get_or xs i d) d not_j ∙ get_or-set_other xs i k (get_or xs j d) d not_i

  pub swap_second : (xs : List X) (i j : ℕ) (d : X) → i < length xs → j < length xs → get_or (swap xs i j) j d ≡ get_or xs i d
  swap_second xs i j d first second =
      ap (λ (ls : List X). get_or ls j d) (sym (swap_is xs i j d first second))
      ∙ get_or-set_same (set xs i (get_or xs j d)) j (get_or xs i d) d (omega (arith, second, length-set xs i (get_or xs j d)))

  pub swap_first : (xs : List X) (i j : ℕ) (d : X) → i < length xs → j < length xs → get_or (swap xs i j) i d ≡ get_or xs j d
  swap_first xs i j d first second = ⊎_elim
      (λ same. ap (λ (n : ℕ). get_or (swap xs i j) n d) same ∙ swap_second xs i j d first second ∙ ap (λ (n : ℕ). get_or xs n d) same)
      (λ other. ap (λ (ls : List X). get_or ls i d) (sym (swap_is xs i j d first second))
      ∙ get_or-set_other (set xs i (get_or xs j d)) j i (get_or xs i d) d other ∙ get_or-set_same xs i (get_or xs j d) d first)
      (cases_eq i j)

  pub swap_still : (xs : List X) (i j : ℕ) (x : X) → i < length xs → j < length xs → Contains xs x → Contains (swap xs i j) x
  swap_still xs i j x first second c = ⊎_elim
      (λ at_i. (j, omega (arith, second, length-swap xs i j), swap_second xs i j x first second ∙ ap (λ (n : ℕ). get_or xs n x) (sym at_i) ∙ c.2))
      (λ not_i. ⊎_elim
      (λ at_j. (i, omega (arith, first, length-swap xs i j), swap_first xs i j x first second ∙ ap (λ (n : ℕ). get_or xs n x) (sym at_j) ∙ c.2))
      (λ not_j. (c.0, omega (arith, c.1, length-swap xs i j), swap_other xs i j c.0 x first second not_i not_j ∙ c.2))
      (cases_eq c.0 j))
      (cases_eq c.0 i)

  -- one element is written
  pub get_set : (xs : List X) (i : ℕ) (x : X) → i < length xs → slice_get (set xs i x) i ≡ Some x
  get_set (y ∷ ys) zero x within = refl
  get_set (y ∷ ys) (suc i) x within = get_set ys i x (omega (arith, within))
  get_set [] i x within = absurd (omega (arith, within))

  pub get_set_other : (xs : List X) (i j : ℕ) (x : X) → (j ≡ i → ⊥) → slice_get (set xs i x) j ≡ slice_get xs j
  get_set_other [] i j x other = refl
  get_set_other (y ∷ ys) zero zero x other = absurd (other refl)
  get_set_other (y ∷ ys) zero (suc j) x other = refl
  get_set_other (y ∷ ys) (suc i) zero x other = refl
  get_set_other (y ∷ ys) (suc i) (suc j) x other = get_set_other ys i j x (λ same. other (ap suc same))
