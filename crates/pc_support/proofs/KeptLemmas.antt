-- Rows that are kept, with their models.
use Rattle.std.proofs.Common.{◌≡◌, ℕ, ◌+◌, ◌<◌, ◌≤◌, ◌⊎◌, inl, inr, Bool, true, List, [], ◌∷◌, ◌++◌, length, All, Contains, Option, Some, slice_get, refl, sym, ap, ◌∙◌, subst, arith}
use Rattle.std.specs.Cmp.Lexicographic.{pointwise}
use Rattle.std.specs.List.{sum_by}
use Rattle.std.proofs.lemmas.Bool.{and_parts, false≢true}
use Rattle.std.proofs.lemmas.List.{length_push, length-map, map-append}
use Rattle.std.proofs.lemmas.List.Sums.{sum_by-append}
use Rattle.std.proofs.lemmas.List.Elements.{All-nil, All-cons, All-head, All-tail, All-push, Contains-push_cases}
use Rattle.pc_lits.specs.declared.literal.Var.{Var}
use Rattle.pc_lits.specs.declared.literal.Lit.{Lit}
use Rattle.pc_lits.proofs.LitLemmas.{same_lit, lit_from_same}
use Rattle.pc_solver.specs.Recent.{AreFew}
use Rattle.pc_support.specs.declared.seen.Row.{Row}
use Rattle.pc_support.specs.declared.seen.Kept.{Kept}
use Rattle.pc_support.specs.inside.Counters.{ArePlacesIn, IsModelIn}
use Rattle.pc_support.specs.inside.Kept.{truths, AreCounted, AreKept}

-- ---- what is counted

pub few_here : (k : Kept) → AreCounted k → AreFew (truths k.rows.items)
few_here k h = let long = length-map k.rows.items (λ (r : Row). r.truth) in let many = h.many in let few = h.few in let items = h.items in record { many = omega (arith, long, many); items = omega (arith, few, items) }

pub counted_none : (k : Kept) → k.rows.items ≡ [] → k.items ≡ 0 → AreCounted k
counted_none k none zeroed = record {
  many = let e : length k.rows.items ≡ 0 = ap length none in omega (arith, e);
  few = omega (arith, zeroed);
  items = zeroed ∙ ap (λ rs. sum_by length (truths rs)) (sym none);
}

truths_push : (rows : List Row) (row : Row) → truths (rows ++ row ∷ []) ≡ truths rows ++ row.truth ∷ []
truths_push rows row = map-append (λ (r : Row). r.truth) rows (row ∷ [])

sum_push : (rows : List Row) (row : Row) → sum_by length (truths (rows ++ row ∷ [])) ≡ sum_by length (truths rows) + length row.truth
sum_push rows row = ap (λ ts. sum_by length ts) (truths_push rows row) ∙ (let e = sum_by-append (λ (t : List Bool). length t) (truths rows) (row.truth ∷ []) in omega (arith, e))

pub counted_more : (before after : Kept) (row : Row) (count : ℕ) → AreCounted before → length row.truth ≡ count → length before.rows.items < 16384 → before.items + count ≤ 4194304
    → after.rows.items ≡ before.rows.items ++ row ∷ [] → after.items ≡ before.items + count → AreCounted after
counted_more before after row count h size many items rows counts =
    let sum : sum_by length (truths after.rows.items) ≡ sum_by length (truths before.rows.items) + length row.truth = ap (λ rs. sum_by length (truths rs)) rows ∙ sum_push before.rows.items row in
    let old = h.items in
    let long = ap length rows ∙ length_push before.rows.items row in
    record {
      many = omega (arith, long, many);
      few = omega (arith, counts, items);
      items = omega (arith, sum, old, size, counts);
    }

-- ---- what is kept

pub kept_none : (watched : List Var) (k : Kept) → k.rows.items ≡ [] → k.items ≡ 0 → ArePlacesIn k.literals.items watched k.places.items → AreKept watched k
kept_none watched k none zeroed places = record {
  places = places;
  models = subst (λ rs. All (λ (r : Row). IsModelIn k.places.items r.truth r.model) rs) (sym none) (All-nil (λ (r : Row). IsModelIn k.places.items r.truth r.model));
  counted = counted_none k none zeroed;
}

pub places_none : (watched : List Var) (literals : List Lit) (places : List (Option ℕ)) → literals ≡ [] → ArePlacesIn literals watched places
places_none watched literals places none i p l at at' = absurd (nothing i l (sym (ap (λ (ls : List Lit). slice_get ls i) none) ∙ at))
  where
    nothing : (i : ℕ) (l : Lit) → slice_get [] i ≡ Some l → ⊥
    nothing i l e = (cc)

-- the rows stay or are forgotten, and the places are the same
pub kept_fewer : (watched : List Var) (before after : Kept) → after.literals ≡ before.literals → after.places ≡ before.places → (after.rows.items ≡ before.rows.items) ⊎ (after.rows.items ≡ []) → AreCounted after
    → AreKept watched before → AreKept watched after
kept_fewer watched before after literals places rows counted h = record {
  places = rw (literals, places) h.places;
  models = rw places (fewer after.rows.items rows);
  counted = counted;
}
  where
    fewer : (rs : List Row) → (rs ≡ before.rows.items) ⊎ (rs ≡ []) → All (λ (r : Row). IsModelIn before.places.items r.truth r.model) rs
    fewer rs (inl same) = subst (λ xs. All (λ (r : Row). IsModelIn before.places.items r.truth r.model) xs) (sym same) h.models
    fewer rs (inr none) = subst (λ xs. All (λ (r : Row). IsModelIn before.places.items r.truth r.model) xs) (sym none) (All-nil (λ (r : Row). IsModelIn before.places.items r.truth r.model))

-- a row may be added, and the places are the same
pub kept_more : (watched : List Var) (before after : Kept) (row : Row) → after.literals ≡ before.literals → after.places ≡ before.places
    → (after.rows.items ≡ before.rows.items) ⊎ (after.rows.items ≡ before.rows.items ++ row ∷ []) → IsModelIn before.places.items row.truth row.model → AreCounted after
    → AreKept watched before → AreKept watched after
kept_more watched before after row literals places rows is_model counted h = record {
  places = rw (literals, places) h.places;
  models = rw places (more after.rows.items rows);
  counted = counted;
}
  where
    more : (rs : List Row) → (rs ≡ before.rows.items) ⊎ (rs ≡ before.rows.items ++ row ∷ []) → All (λ (r : Row). IsModelIn before.places.items r.truth r.model) rs
    more rs (inl same) = subst (λ xs. All (λ (r : Row). IsModelIn before.places.items r.truth r.model) xs) (sym same) h.models
    more rs (inr one) = subst (λ xs. All (λ (r : Row). IsModelIn before.places.items r.truth r.model) xs) (sym one) (All-push (λ (r : Row). IsModelIn before.places.items r.truth r.model) before.rows.items row h.models is_model)

items_same : (k j : Kept) → k.places ≡ j.places → k.places.items ≡ j.places.items
items_same k j same = rw same refl

-- a row that was made of its truth
pub kept_added : (watched : List Var) (before mid after : Kept) (row : Row) (places : List (Option ℕ)) (truth : List Bool) → AreKept watched before
    → mid.literals ≡ before.literals → mid.places ≡ before.places → (mid.rows.items ≡ before.rows.items) ⊎ (mid.rows.items ≡ []) → AreCounted mid
    → after.literals ≡ mid.literals → after.places ≡ mid.places → (after.rows.items ≡ mid.rows.items) ⊎ (after.rows.items ≡ mid.rows.items ++ row ∷ []) → AreCounted after
    → places ≡ before.places.items → row.truth ≡ truth → IsModelIn places truth row.model → AreKept watched after
kept_added watched before mid after row places truth h literals same rows counted literals' same' rows' counted' is truth_is is_model =
    kept_more watched mid after row literals' same' rows'
    (subst (λ ps. IsModelIn ps row.truth row.model) (is ∙ sym (items_same mid before same)) (subst (λ t. IsModelIn places t row.model) (sym truth_is) is_model))
    counted' (kept_fewer watched before mid literals same rows counted h)

-- nothing else is kept
pub only_kept : (before mid after : List Row) (row : Row) (truth : List Bool) → (mid ≡ before) ⊎ (mid ≡ []) → (after ≡ mid) ⊎ (after ≡ mid ++ row ∷ []) → row.truth ≡ truth
    → (t : List Bool) → Contains (truths after) t → Contains (truths before) t ⊎ (t ≡ truth)
only_kept before mid after row truth fewer more is t c = elim more [
  | inl same ↦ inl (old (subst (λ rs. Contains (truths rs) t) same c))
  | inr one ↦ elim (Contains-push_cases (truths mid) row.truth t (subst (λ ts. Contains ts t) (ap truths one ∙ truths_push mid row) c)) [
    | inl there ↦ inl (old there)
    | inr here ↦ inr (sym here ∙ is)
  ]
]
  where
    nothing : Contains (truths []) t → ⊥
    nothing h = omega (arith, h.1)

    old : Contains (truths mid) t → Contains (truths before) t
    old h = elim fewer [
      | inl same ↦ subst (λ rs. Contains (truths rs) t) same h
      | inr none ↦ absurd (nothing (subst (λ rs. Contains (truths rs) t) none h))
    ]

-- ---- as models

pub all_rows : (P : List Bool → Type 0) (rows : List Row) → All P (truths rows) → All (λ (r : Row). P r.truth) rows
all_rows P [] h = All-nil (λ (r : Row). P r.truth)
all_rows P (row ∷ rows) h = All-cons (λ (r : Row). P r.truth) row rows (All-head P row.truth (truths rows) h) (all_rows P rows (All-tail P row.truth (truths rows) h))

pub truths_fewer : (before after : List Row) → (after ≡ before) ⊎ (after ≡ []) → (truths after ≡ truths before) ⊎ (truths after ≡ [])
truths_fewer before after (inl same) = inl (ap truths same)
truths_fewer before after (inr none) = inr (ap truths none)

-- ---- literals that are compared

pub same_literals : (some others : List Lit) → pointwise same_lit some others ≡ true → some ≡ others
same_literals [] [] h = refl
same_literals [] (m ∷ others) h = absurd (false≢true h)
same_literals (l ∷ some) [] h = absurd (false≢true h)
same_literals (l ∷ some) (m ∷ others) h =
    let parts = and_parts (same_lit l m) (pointwise same_lit some others) h in
    ap (λ x. x ∷ some) (lit_from_same l m parts.0) ∙ ap (λ xs. m ∷ xs) (same_literals some others parts.1)
