-- Places of lists: what stands before them and behind them.
use Rattle.std.proofs.Common.{◌≡◌, ℕ, zero, suc, ◌+◌, ◌<◌, ◌≤◌, ◌⊎◌, inl, inr, Bool, true, false, cond, List, [], ◌∷◌, ◌++◌, filter, length, take, drop, Some, slice_get, Contains, arith, ap, refl, sym, ◌∙◌, subst}
use Rattle.std.proofs.lemmas.Bool.{cases_eq, cases_lt}
use Rattle.std.proofs.lemmas.Option.{slice_get-get_or, get_or_from_slice_get}
use Rattle.pc_lemmas.proofs.Elements.{contains_first, contains_later, contains_none, kept_is}
use Rattle.pc_lemmas.proofs.Options.{same_some}
use Rattle.pc_sheet.specs.WellFormed.{AreDifferent}
use Rattle.pc_sheet.specs.declared.ids.Entry.{Entry}
use Rattle.pc_laws.proofs.Contained.{distinct_first, distinct_rest}

module _ {X : Type 0} where
  pub none_at : (i : ℕ) (x : X) → slice_get [] i ≡ Some x → ⊥
  none_at i x is = absurd (cc)

  pub low_at : (xs : List X) (i : ℕ) (x : X) → slice_get xs i ≡ Some x → i < length xs
  low_at [] i x at = absurd (none_at i x at)
  low_at (y ∷ ys) zero x at = omega arith
  low_at (y ∷ ys) (suc i) x at = omega (arith, low_at ys i x at)

  pub there_at : (xs : List X) (i : ℕ) (x : X) → slice_get xs i ≡ Some x → Contains xs x
  there_at [] i x at = absurd (none_at i x at)
  there_at (y ∷ ys) zero x at = subst (Contains (y ∷ ys)) (same_some at) (contains_first y ys)
  there_at (y ∷ ys) (suc i) x at = contains_later y ys x (there_at ys i x at)

  pub place_of : (xs : List X) (x : X) → Contains xs x → (i : ℕ) × (slice_get xs i ≡ Some x)
  place_of xs x c = (c.0, slice_get-get_or xs c.0 x c.1 ∙ ap Some c.2)

  pub at_take : (xs : List X) (n i : ℕ) (x : X) → slice_get xs i ≡ Some x → i < n → Contains (take n xs) x
  at_take xs zero i x at less = absurd (omega (arith, less))
  at_take [] (suc n) i x at less = absurd (none_at i x at)
  at_take (y ∷ ys) (suc n) zero x at less = subst (Contains (y ∷ take n ys)) (same_some at) (contains_first y (take n ys))
  at_take (y ∷ ys) (suc n) (suc i) x at less = contains_later y (take n ys) x (at_take ys n i x at (omega (arith, less)))

  pub take_at : (xs : List X) (n : ℕ) (x : X) → Contains (take n xs) x → (i : ℕ) × (i < n) × (slice_get xs i ≡ Some x)
  take_at xs zero x c = absurd (contains_none x c)
  take_at [] (suc n) x c = absurd (contains_none x c)
  take_at (y ∷ ys) (suc n) x (zero, l, is) = (zero, omega arith, ap Some is)
  take_at (y ∷ ys) (suc n) x (suc i, l, is) = let r = take_at ys n x (i, omega (arith, l), is) in (suc r.0, omega (arith, r.1), r.2)

  pub at_drop : (xs : List X) (n i : ℕ) (x : X) → slice_get xs i ≡ Some x → n ≤ i → Contains (drop n xs) x
  at_drop xs zero i x at more = there_at xs i x at
  at_drop [] (suc n) i x at more = absurd (none_at i x at)
  at_drop (y ∷ ys) (suc n) zero x at more = absurd (omega (arith, more))
  at_drop (y ∷ ys) (suc n) (suc i) x at more = at_drop ys n i x at (omega (arith, more))

  pub drop_at : (xs : List X) (n : ℕ) (x : X) → Contains (drop n xs) x → (i : ℕ) × (n ≤ i) × (slice_get xs i ≡ Some x)
  drop_at xs zero x c = let p = place_of xs x c in (p.0, omega arith, p.1)
  drop_at [] (suc n) x c = absurd (contains_none x c)
  drop_at (y ∷ ys) (suc n) x c = let r = drop_at ys n x c in (suc r.0, omega (arith, r.1), r.2)

  pub drop_less : (xs : List X) (n : ℕ) (x : X) → Contains (drop (n + 1) xs) x → Contains (drop n xs) x
  drop_less xs n x c = let r = drop_at xs (n + 1) x c in at_drop xs n r.0 x r.2 (omega (arith, r.1))

  pub drop_there : (xs : List X) (n : ℕ) (x : X) → Contains (drop n xs) x → Contains xs x
  drop_there xs n x c = let r = drop_at xs n x c in there_at xs r.0 x r.2

  pub take_there : (xs : List X) (n : ℕ) (x : X) → Contains (take n xs) x → Contains xs x
  take_there xs n x c = let r = take_at xs n x c in there_at xs r.0 x r.2

  -- the last of a longer list, or an earlier one
  pub pushed_cases : (xs : List X) (y : X) (i : ℕ) (x : X) → slice_get (xs ++ y ∷ []) i ≡ Some x
      → ((slice_get xs i ≡ Some x) × (take i (xs ++ y ∷ []) ≡ take i xs)) ⊎ ((x ≡ y) × (take i (xs ++ y ∷ []) ≡ xs))
  pushed_cases [] y zero x at = inr (sym (same_some at), refl)
  pushed_cases [] y (suc i) x at = absurd (none_at i x at)
  pushed_cases (z ∷ zs) y zero x at = inl (at, refl)
  pushed_cases (z ∷ zs) y (suc i) x at = elim (pushed_cases zs y i x at) [
    | inl early ↦ inl (early.0, ap (λ l. z ∷ l) early.1)
    | inr last ↦ inr (last.0, ap (λ l. z ∷ l) last.1)
  ]

  -- different elements have one place each
  pub one_place : (xs : List X) → AreDifferent xs → (i j : ℕ) (x : X) → slice_get xs i ≡ Some x → slice_get xs j ≡ Some x → i ≡ j
  one_place xs different i j x at also = elim (cases_eq i j) [
    | inl same ↦ same
    | inr differ ↦ elim (cases_lt i j) [
      | inl less ↦ absurd (different i j x less (low_at xs j x also) (get_or_from_slice_get xs i x x at ∙ sym (get_or_from_slice_get xs j x x also)))
      | inr more ↦ absurd (different j i x (omega (arith, more, differ)) (low_at xs i x at) (get_or_from_slice_get xs j x x also ∙ sym (get_or_from_slice_get xs i x x at)))
    ]
  ]

  -- of two elements each isn't behind the other
  pub not_both : (xs : List X) → AreDifferent xs → (i j : ℕ) (x y : X) → slice_get xs i ≡ Some x → slice_get xs j ≡ Some y → Contains (drop (i + 1) xs) y → ¬ Contains (drop (j + 1) xs) x
  not_both xs different i j x y at_x at_y y_behind x_behind =
      let m = drop_at xs (i + 1) y y_behind in
      let n = drop_at xs (j + 1) x x_behind in
      omega (arith, m.1, n.1, one_place xs different m.0 j y m.2 at_y, one_place xs different n.0 i x n.2 at_x)

-- what stands behind an entry in a filtered list does so in the list
pub behind : (p : Entry → Bool) (older newer : List Entry) (d : Entry) (place : ℕ) (e : Entry) → AreDifferent (older ++ d ∷ newer) → slice_get (filter p (older ++ d ∷ newer)) place ≡ Some d
    → Contains (drop (place + 1) (filter p (older ++ d ∷ newer))) e → Contains newer e
behind p [] newer d place e different at c = by_test (p d) place at c
  where
    new : ¬ Contains newer d
    new = distinct_first d newer different

    by_test : (b : Bool) (n : ℕ) → slice_get (cond b (d ∷ filter p newer) (filter p newer)) n ≡ Some d → Contains (drop (n + 1) (cond b (d ∷ filter p newer) (filter p newer))) e → Contains newer e
    by_test true zero at_d c_e = (kept_is p newer e c_e).0
    by_test true (suc n) at_d c_e = absurd (new (kept_is p newer d (there_at (filter p newer) n d at_d)).0)
    by_test false n at_d c_e = absurd (new (kept_is p newer d (there_at (filter p newer) n d at_d)).0)
behind p (x ∷ xs) newer d place e different at c =
    by_test (λ n at_d c_e. behind p xs newer d n e (distinct_rest x (xs ++ d ∷ newer) different) at_d c_e) (p x) place at c
  where
    rest : List Entry
    rest = xs ++ d ∷ newer

    next : (n : ℕ) → suc n + 1 ≡ suc (n + 1)
    next n = omega arith

    in_append : (ys : List Entry) → Contains (ys ++ d ∷ newer) d
    in_append [] = contains_first d newer
    in_append (y ∷ ys) = contains_later y (ys ++ d ∷ newer) d (in_append ys)

    by_test : ((n : ℕ) → slice_get (filter p rest) n ≡ Some d → Contains (drop (n + 1) (filter p rest)) e → Contains newer e)
        → (b : Bool) (n : ℕ) → slice_get (cond b (x ∷ filter p rest) (filter p rest)) n ≡ Some d → Contains (drop (n + 1) (cond b (x ∷ filter p rest) (filter p rest))) e → Contains newer e
    by_test again true zero at_d c_e = absurd (distinct_first x rest different (subst (Contains rest) (sym (same_some at_d)) (in_append xs)))
    by_test again true (suc n) at_d c_e = again n at_d (subst (λ k. Contains (drop k (x ∷ filter p rest)) e) (next n) c_e)
    by_test again false n at_d c_e = again n at_d c_e
