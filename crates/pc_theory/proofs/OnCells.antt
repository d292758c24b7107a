-- The targets on some cells.
use Rattle.std.proofs.Common.{◌≡◌, ℕ, zero, suc, ◌*◌, ◌<◌, ◌≤◌, ◌^◌, inl, inr, Bool, true, false, List, [], ◌∷◌, ◌++◌, map, length, All, Contains, slice_get, slice_index_or, IsSomeAnd, refl, ap, sym, ◌∙◌, subst, arith}
use Rattle.std.proofs.lemmas.List.Elements.{Contains-append_cases, Contains-append_left, Contains-append_right}
use Rattle.std.proofs.lemmas.List.{append-nil, append_assoc, length-append}
use Rattle.std.proofs.lemmas.List.Sums.{sum_by-cons}
use Rattle.std.proofs.lemmas.Bool.{cases_eq}
use Rattle.pc_lemmas.proofs.Elements.{all_from, contains_cases, contains_first, contains_later, contains_map, contains_none}
use Rattle.pc_sheet.specs.Sheet.{Universe, Sheet}
use Rattle.pc_sheet.specs.Entailment.{cell_sizes}
use Rattle.pc_sheet.specs.declared.ids.CellId.{CellId}
use Rattle.pc_sheet.specs.declared.ids.Target.{Target}
use Rattle.pc_components.specs.Pairs.{size_at}
use Rattle.pc_components.specs.View.{number_of}
use Rattle.pc_parts.specs.Parts.{Part}
use Rattle.pc_reason.specs.Targets.{IsTargetIn}
use Rattle.pc_search.specs.Parts.{IsTargetOn}
use Rattle.pc_theory.specs.Targets.{target_of_value, targets_on_cell, targets_on, target_count}
use Rattle.pc_theory.proofs.Lists.{all_in}

-- ---- of a cell

same_target : (t : Target) (c : CellId) (v : ℕ) → t.cell ≡ c → t.value.0 ≡ v → target_of_value c v t.holds ≡ t
same_target t c v is_cell is_value = sym (let make : CellId → ℕ → Target = λ d w. target_of_value d w t.holds in ap (λ d. make d t.value.0) is_cell ∙ ap (make c) is_value)

pair_has : (t : Target) (c : CellId) (v : ℕ) → t.cell ≡ c → t.value.0 ≡ v → Contains (target_of_value c v true ∷ target_of_value c v false ∷ []) t
pair_has t c v is_cell is_value = by t.holds refl
  where
    by : (b : Bool) → t.holds ≡ b → Contains (target_of_value c v true ∷ target_of_value c v false ∷ []) t
    by true is = subst (Contains (target_of_value c v true ∷ target_of_value c v false ∷ [])) (ap (target_of_value c v) (sym is) ∙ same_target t c v is_cell is_value) (contains_first (target_of_value c v true) (target_of_value c v false ∷ []))
    by false is =
        subst (Contains (target_of_value c v true ∷ target_of_value c v false ∷ [])) (ap (target_of_value c v) (sym is) ∙ same_target t c v is_cell is_value)
        (contains_later (target_of_value c v true) (target_of_value c v false ∷ []) (target_of_value c v false) (contains_first (target_of_value c v false) []))

pub of_cell_has : (t : Target) (c : CellId) (n : ℕ) → t.cell ≡ c → t.value.0 < n → Contains (targets_on_cell c n) t
of_cell_has t c zero is below = absurd (omega (arith, below))
of_cell_has t c (suc n) is below = elim (cases_eq t.value.0 n) [
  | inl last ↦ Contains-append_right (targets_on_cell c n) (target_of_value c n true ∷ target_of_value c n false ∷ []) t (pair_has t c n is last)
  | inr other ↦ Contains-append_left (targets_on_cell c n) (target_of_value c n true ∷ target_of_value c n false ∷ []) t (of_cell_has t c n is (omega (arith, below, other)))
]

pub has_of_cell : (t : Target) (c : CellId) (n : ℕ) → Contains (targets_on_cell c n) t → (t.cell ≡ c) × (t.value.0 < n)
has_of_cell t c zero h = absurd (contains_none t h)
has_of_cell t c (suc n) h = elim (Contains-append_cases (targets_on_cell c n) (target_of_value c n true ∷ target_of_value c n false ∷ []) t h) [
  | inl early ↦ let r = has_of_cell t c n early in (r.0, omega (arith, r.1))
  | inr last ↦ elim (contains_cases (target_of_value c n true) (target_of_value c n false ∷ []) t last) [
    | inl is ↦ of is
    | inr later ↦ elim (contains_cases (target_of_value c n false) [] t later) [ inl is ↦ of is | inr none ↦ absurd (contains_none t none) ]
  ]
]
  where
    of : {b : Bool} → target_of_value c n b ≡ t → (t.cell ≡ c) × (t.value.0 < suc n)
    of is = let cell : Target → CellId = λ x. x.cell in let value : Target → ℕ = λ x. x.value.0 in (sym (ap cell is), omega (arith, ap value is))

many_of_cell : (c : CellId) (n : ℕ) → length (targets_on_cell c n) ≡ 2 * n
many_of_cell c zero = omega arith
many_of_cell c (suc n) = omega (arith, length-append (targets_on_cell c n) (target_of_value c n true ∷ target_of_value c n false ∷ []), many_of_cell c n)

-- ---- of cells

pub on_has : (sizes : List ℕ) (cells : List CellId) (t : Target) → Contains cells t.cell → t.value.0 < size_at sizes t.cell → Contains (targets_on sizes cells) t
on_has sizes [] t h below = absurd (contains_none t.cell h)
on_has sizes (c ∷ cs) t h below = elim (contains_cases c cs t.cell h) [
  | inl is ↦ Contains-append_left (targets_on_cell c (size_at sizes c)) (targets_on sizes cs) t (of_cell_has t c (size_at sizes c) (sym is) (subst (λ d. t.value.0 < size_at sizes d) (sym is) below))
  | inr later ↦ Contains-append_right (targets_on_cell c (size_at sizes c)) (targets_on sizes cs) t (on_has sizes cs t later below)
]

pub has_on : (sizes : List ℕ) (cells : List CellId) (t : Target) → Contains (targets_on sizes cells) t → Contains cells t.cell × (t.value.0 < size_at sizes t.cell)
has_on sizes [] t h = absurd (contains_none t h)
has_on sizes (c ∷ cs) t h = elim (Contains-append_cases (targets_on_cell c (size_at sizes c)) (targets_on sizes cs) t h) [
  | inl here ↦
      let r = has_of_cell t c (size_at sizes c) here in
      (subst (Contains (c ∷ cs)) (sym r.0) (contains_first c cs), subst (λ d. t.value.0 < size_at sizes d) (sym r.0) r.1)
  | inr later ↦ let r = has_on sizes cs t later in (contains_later c cs t.cell r.0, r.1)
]

pub value_within : (sizes : List ℕ) (c v : ℕ) → v < slice_index_or sizes c 0 → IsSomeAnd (slice_get sizes c) (λ n. v < n)
value_within [] c v below = absurd (omega (arith, below))
value_within (n ∷ ns) zero v below = below
value_within (n ∷ ns) (suc c) v below = value_within ns c v below

pub within_value : (sizes : List ℕ) (c v : ℕ) → IsSomeAnd (slice_get sizes c) (λ n. v < n) → v < slice_index_or sizes c 0
within_value [] c v h = absurd h
within_value (n ∷ ns) zero v h = h
within_value (n ∷ ns) (suc c) v h = within_value ns c v h

-- targets of the universe
pub on_target : (u : Universe) (cells : List CellId) (t : Target) → Contains (targets_on (cell_sizes u) cells) t → Contains cells t.cell × IsTargetIn u t
on_target u cells t h = let r = has_on (cell_sizes u) cells t h in (r.0, value_within (cell_sizes u) t.cell.0 t.value.0 r.1)

pub target_on : (u : Universe) (cells : List CellId) (t : Target) → Contains cells t.cell → IsTargetIn u t → Contains (targets_on (cell_sizes u) cells) t
target_on u cells t on is = on_has (cell_sizes u) cells t on (within_value (cell_sizes u) t.cell.0 t.value.0 is)

-- and of the part with these cells
pub all_on : (sheet : Sheet) (part : Part) (cells : List CellId) (ts : List Target) → map number_of cells ≡ part.cells → All (Contains (targets_on (cell_sizes sheet.universe) cells)) ts → All (IsTargetOn sheet part) ts
all_on sheet part cells ts are all =
    all_from (IsTargetOn sheet part) ts (λ t has.
    let r = on_target sheet.universe cells t (all_in (Contains (targets_on (cell_sizes sheet.universe) cells)) ts t all has) in
    (subst (λ cs. Contains cs t.cell.0) are (contains_map number_of cells t.cell r.0), r.1))

pub on_push : (sizes : List ℕ) (cells : List CellId) (c : CellId) → targets_on sizes (cells ++ c ∷ []) ≡ targets_on sizes cells ++ targets_on_cell c (size_at sizes c)
on_push sizes [] c = append-nil (targets_on_cell c (size_at sizes c))
on_push sizes (d ∷ ds) c =
    ap (λ ts. targets_on_cell d (size_at sizes d) ++ ts) (on_push sizes ds c) ∙ sym (append_assoc (targets_on_cell d (size_at sizes d)) (targets_on sizes ds) (targets_on_cell c (size_at sizes c)))

-- ---- how many

pub many_on : (sizes : List ℕ) (cells : List CellId) → length (targets_on sizes cells) ≡ target_count sizes (map number_of cells)
many_on sizes [] = refl
many_on sizes (c ∷ cs) =
    omega (
      arith,
      length-append (targets_on_cell c (size_at sizes c)) (targets_on sizes cs),
      many_of_cell c (size_at sizes c),
      many_on sizes cs,
      sum_by-cons (λ (d : ℕ). slice_index_or sizes d 0) c.0 (map number_of cs),
    )

few_from : (sizes : List ℕ) (cells : List CellId) (most : ℕ) → ((c : CellId) → size_at sizes c ≤ 256) → length cells ≤ most → length (targets_on sizes cells) ≤ 512 * most
few_from sizes [] most small few = omega arith
few_from sizes (c ∷ cs) zero small few = absurd (omega (arith, few))
few_from sizes (c ∷ cs) (suc most) small few =
    let rest = few_from sizes cs most small (omega (arith, few)) in
    omega (arith, length-append (targets_on_cell c (size_at sizes c)) (targets_on sizes cs), many_of_cell c (size_at sizes c), small c, rest)

pub few_on : (sizes : List ℕ) (cells : List CellId) → ((c : CellId) → size_at sizes c ≤ 256) → length cells ≤ 4096 → length (targets_on sizes cells) ≤ 2 ^ 21
few_on sizes cells small few = omega (arith, few_from sizes cells 4096 small few)
