-- The rows of tables, counted and looked for.
use Rattle.std.proofs.Common.{◌≡◌, ℕ, zero, suc, ◌+◌, ◌≤◌, List, [], ◌∷◌, ◌++◌, Option, None, Some, slice_get, IsSomeAnd, take, drop, length, Contains, arith, ap, ◌∙◌, sym, subst, inl, inr, sum_by}
use Rattle.std.proofs.lemmas.List.{take_all, drop_all, append-nil}
use Rattle.std.proofs.lemmas.List.Sums.{sum_by-cons}
use Rattle.std.proofs.lemmas.List.Elements.{Contains-push_cases}
use Rattle.pc_sheet.specs.Sheet.{Table}
use Rattle.pc_sheet.specs.WellFormed.{rows_in}
use Rattle.pc_sheet.specs.declared.ids.ValueId.{ValueId}

-- ---- counted

pub rows_more : (ts : List Table) (i n : ℕ) → IsSomeAnd (slice_get ts i) (λ d. n ≡ length d.rows) → sum_by rows_in (take (i + 1) ts) ≡ sum_by rows_in (take i ts) + n
rows_more [] i n h = absurd h
rows_more (t ∷ ts) zero n h = let x = sum_by-cons rows_in t [] in omega (arith, x)
rows_more (t ∷ ts) (suc i) n h =
    let r = rows_more ts i n h in
    let x = sum_by-cons rows_in t (take (i + 1) ts) in
    let y = sum_by-cons rows_in t (take i ts) in
    let same : take (suc i + 1) (t ∷ ts) ≡ t ∷ take (i + 1) ts = ap (λ k. take k (t ∷ ts)) (next i) in
    let z = ap (sum_by rows_in) same in
    omega (arith, r, x, y, z)
  where
    next : (i : ℕ) → suc i + 1 ≡ suc (i + 1)
    next i = omega arith

pub rows_below : (ts : List Table) (i : ℕ) → sum_by rows_in (take i ts) ≤ sum_by rows_in ts
rows_below [] zero = omega arith
rows_below [] (suc i) = omega arith
rows_below (t ∷ ts) zero = omega arith
rows_below (t ∷ ts) (suc i) = let r = rows_below ts i in omega (arith, r, sum_by-cons rows_in t (take i ts), sum_by-cons rows_in t ts)

-- ---- looked for

module _ (row : List ValueId) where
  more_rows : (rows : List (List ValueId)) (i : ℕ) (r : List ValueId) → slice_get rows i ≡ Some r → take (i + 1) rows ≡ take i rows ++ r ∷ []
  more_rows [] i r h = absurd (cc)
  more_rows (x ∷ xs) zero r h = let e : x ≡ r = cc in ap (λ y. y ∷ []) e
  more_rows (x ∷ xs) (suc i) r h = ap (λ k. take k (x ∷ xs)) (next i) ∙ ap (λ ys. x ∷ ys) (more_rows xs i r h)
    where
      next : (i : ℕ) → suc i + 1 ≡ suc (i + 1)
      next i = omega arith

  pub not_this : (o : Option Table) (i : ℕ) (r : List ValueId) → IsSomeAnd o (λ d. ¬ Contains (take i d.rows) row) → IsSomeAnd o (λ d. slice_get d.rows i ≡ Some r) → (r ≡ row → ⊥) → IsSomeAnd o (λ d. ¬ Contains (take (i + 1) d.rows) row)
  not_this None i r h is other = h
  not_this (Some d) i r h is other = λ k. elim (Contains-push_cases (take i d.rows) r row (subst (λ rs. Contains rs row) (more_rows d.rows i r is) k)) [ inl a ↦ h a | inr b ↦ other b ]

  at_place : (rows : List (List ValueId)) (i : ℕ) → slice_get rows i ≡ Some row → Contains rows row
  at_place [] i h = absurd (cc)
  at_place (x ∷ xs) zero h = (0, omega arith, (let e : x ≡ row = cc in e))
  at_place (x ∷ xs) (suc i) h = let r = at_place xs i h in (suc r.0, omega (arith, r.1), r.2)

  pub this_one : (o : Option Table) (i : ℕ) (r : List ValueId) → IsSomeAnd o (λ d. slice_get d.rows i ≡ Some r) → r ≡ row → IsSomeAnd o (λ d. Contains d.rows row)
  this_one None i r is e = is
  this_one (Some d) i r is e = at_place d.rows i (is ∙ ap Some e)

  pub none_at_all : (o : Option Table) (i n : ℕ) → IsSomeAnd o (λ d. n ≡ length d.rows) → n ≤ i → IsSomeAnd o (λ d. ¬ Contains (take i d.rows) row) → ¬ IsSomeAnd o (λ d. Contains d.rows row)
  none_at_all None i n is l h k = k
  none_at_all (Some d) i n is l h k = h (subst (λ rs. Contains rs row) (sym (take_all i d.rows (omega arith))) k)

-- ---- written

pub all_written : {X : Type 0} (n : ℕ) (into items : List X) → length into ≡ length items → n ≡ length items → take n (into ++ drop (length into) items) ≡ into
all_written n into items same is =
    ap (λ rest. take n (into ++ rest)) (drop_all (length into) items (omega arith)) ∙ ap (take n) (append-nil into) ∙ take_all n into (omega arith)
