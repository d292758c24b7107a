-- How many bytes the rows count for that an edit puts: no more than those of all rows after it.
use Rattle.std.proofs.Common.{◌≡◌, ℕ, zero, suc, ◌+◌, ◌≤◌, inl, inr, Bool, true, false, cond, ◌&&◌, eqb, eq-eqb, List, [], ◌∷◌, Contains, Option, arith, ap, refl, sym, ◌∙◌, subst}
use Rattle.std.specs.Bool.{beq}
use Rattle.std.specs.List.{AllZip}
use Rattle.pc_sheet.specs.Sheet.{Sheet}
use Rattle.pc_sheet.specs.declared.ids.CellId.{CellId}
use Rattle.pc_sheet.specs.declared.ids.Target.{Target}
use Rattle.pc_reason.specs.Reasons.{Justification}
use Rattle.pc_components.specs.Pairs.{size_at}
use Rattle.pc_cache.specs.Rows.{TargetRow, is_same_target, row_of, row_after, row_bytes, bytes_of_rows}
use Rattle.pc_search.specs.Found.{IsFound}
use Rattle.pc_theory.specs.Targets.{target_of_value, targets_on_cell, targets_on}
use Rattle.pc_lemmas.proofs.Elements.{contains_cases, contains_first, contains_later, contains_none}
use Rattle.pc_theory.proofs.OnCells.{has_of_cell, has_on}
use Rattle.pc_theory.proofs.Changes.{compared}
use Rattle.pc_session.proofs.Apart.{AreApart, apart_append}

-- ---- targets

same_test : (t : Target) → is_same_target t t ≡ true
same_test t = ap (λ b. b && (eqb t.value.0 t.value.0 && beq t.holds t.holds)) (eq-eqb t.cell.0 t.cell.0 refl) ∙ (ap (λ b. b && beq t.holds t.holds) (eq-eqb t.value.0 t.value.0 refl) ∙ itself t.holds)
  where
    itself : (b : Bool) → beq b b ≡ true
    itself true = refl
    itself false = refl

two_apart : (c : CellId) (n : ℕ) → AreApart (target_of_value c n true ∷ target_of_value c n false ∷ [])
two_apart c n = (λ there. elim (contains_cases (target_of_value c n false) [] (target_of_value c n true) there) [ inl is ↦ differs (let of : Target → Bool = λ t. t.holds in ap of is) | inr none ↦ contains_none (target_of_value c n true) none ], (λ none. contains_none (target_of_value c n false) none, tt))
  where
    differs : false ≡ true → ⊥
    differs is = cc

pub apart_of_cell : (c : CellId) (n : ℕ) → AreApart (targets_on_cell c n)
apart_of_cell c zero = tt
apart_of_cell c (suc n) =
    apart_append (targets_on_cell c n) (target_of_value c n true ∷ target_of_value c n false ∷ []) (apart_of_cell c n) (two_apart c n) (λ t early late.
    let below = (has_of_cell t c n early).1 in
    elim (contains_cases (target_of_value c n true) (target_of_value c n false ∷ []) t late) [
      | inl is ↦ omega (arith, below, (let of : Target → ℕ = λ x. x.value.0 in ap of is))
      | inr later ↦ elim (contains_cases (target_of_value c n false) [] t later) [
        | inl is ↦ omega (arith, below, (let of : Target → ℕ = λ x. x.value.0 in ap of is))
        | inr none ↦ contains_none t none
      ]
    ])

pub apart_on : (sizes : List ℕ) (cells : List CellId) → AreApart cells → AreApart (targets_on sizes cells)
apart_on sizes [] apart = tt
apart_on sizes (c ∷ cs) apart =
    apart_append (targets_on_cell c (size_at sizes c)) (targets_on sizes cs) (apart_of_cell c (size_at sizes c)) (apart_on sizes cs apart.1)
    (λ t early late. apart.0 (subst (Contains cs) (has_of_cell t c (size_at sizes c) early).0 (has_on sizes cs t late).0))

-- ---- the bytes of some targets' rows

abbrev total : (Target → Option Justification) → List Target → ℕ
total f [] = 0
total f (t ∷ ts) = row_bytes (f t) + total f ts

total_same : (f g : Target → Option Justification) (ts : List Target) → ((t : Target) → Contains ts t → f t ≡ g t) → total f ts ≡ total g ts
total_same f g [] same = refl
total_same f g (t ∷ ts) same = ap (λ o. row_bytes o + total f ts) (same t (contains_first t ts)) ∙ ap (λ n. row_bytes (g t) + n) (total_same f g ts (λ u there. same u (contains_later t ts u there)))

none_of_none : (ts : List Target) → total (row_of []) ts ≡ 0
none_of_none [] = refl
none_of_none (t ∷ ts) = omega (arith, none_of_none ts)

without_target : (r : TargetRow) (rs : List TargetRow) (ts : List Target) → ¬ Contains ts r.target → total (row_of (r ∷ rs)) ts ≡ total (row_of rs) ts
without_target r rs ts none =
    total_same (row_of (r ∷ rs)) (row_of rs) ts (λ t there. elim (compared r.target t) [
      | inl same ↦ absurd (none (subst (Contains ts) (sym same) there))
      | inr other ↦ ap (λ b. cond b r.row (row_of rs t)) other
    ])

one_more_row : (r : TargetRow) (rs : List TargetRow) (ts : List Target) → AreApart ts → total (row_of (r ∷ rs)) ts ≤ row_bytes r.row + total (row_of rs) ts
one_more_row r rs [] apart = omega arith
one_more_row r rs (t ∷ ts) apart = elim (compared r.target t) [
  | inl same ↦
      let here : row_of (r ∷ rs) t ≡ r.row = ap (λ b. cond b r.row (row_of rs t)) (ap (λ s. is_same_target s t) same ∙ same_test t) in
      let rest = without_target r rs ts (subst (λ s. ¬ Contains ts s) (sym same) apart.0) in
      omega (arith, ap row_bytes here, rest)
  | inr other ↦
      let here : row_of (r ∷ rs) t ≡ row_of rs t = ap (λ b. cond b r.row (row_of rs t)) other in
      omega (arith, ap row_bytes here, one_more_row r rs ts apart.1)
]

pub within_rows : (rows : List TargetRow) (ts : List Target) → AreApart ts → total (row_of rows) ts ≤ bytes_of_rows rows
within_rows [] ts apart = omega (arith, none_of_none ts)
within_rows (r ∷ rs) ts apart = omega (arith, one_more_row r rs ts apart, within_rows rs ts apart)

-- ---- the bytes of changes

module _ (sheet : Sheet) (most : ℕ) where
  unchanged : (ts : List Target) (cs : List TargetRow) → AllZip (IsFound sheet most) ts cs → (t : Target) (before : Option Justification) → ¬ Contains ts t → row_after cs t before ≡ before
  unchanged [] [] zip t before none = refl
  unchanged [] (c ∷ cs) zip t before none = absurd zip
  unchanged (s ∷ ts) [] zip t before none = absurd zip
  unchanged (s ∷ ts) (c ∷ cs) zip t before none = elim (compared c.target t) [
    | inl same ↦ absurd (none (subst (Contains (s ∷ ts)) (sym zip.0.target ∙ same) (contains_first s ts)))
    | inr other ↦ ap (λ b. row_after cs t (cond b c.row before)) other ∙ unchanged ts cs zip.1 t before (λ there. none (contains_later s ts t there))
  ]

  pub bytes_of_changes : (ts : List Target) (cs : List TargetRow) → AllZip (IsFound sheet most) ts cs → AreApart ts → (g : Target → Option Justification) → bytes_of_rows cs ≡ total (λ t. row_after cs t (g t)) ts
  bytes_of_changes [] [] zip apart g = refl
  bytes_of_changes [] (c ∷ cs) zip apart g = absurd zip
  bytes_of_changes (s ∷ ts) [] zip apart g = absurd zip
  bytes_of_changes (s ∷ ts) (c ∷ cs) zip apart g =
      let test : is_same_target c.target s ≡ true = ap (λ x. is_same_target x s) zip.0.target ∙ same_test s in
      let here : row_after (c ∷ cs) s (g s) ≡ c.row = ap (λ b. row_after cs s (cond b c.row (g s))) test ∙ unchanged ts cs zip.1 s c.row apart.0 in
      let later = bytes_of_changes ts cs zip.1 apart.1 (λ t. cond (is_same_target c.target t) c.row (g t)) in
      omega (arith, ap row_bytes here, later)

  -- what an edit puts counts for no more than all rows after it
  pub few_bytes : (ts : List Target) (cs rows new : List TargetRow) → AllZip (IsFound sheet most) ts cs → AreApart ts → ((t : Target) → row_of new t ≡ row_after cs t (row_of rows t)) → bytes_of_rows cs ≤ bytes_of_rows new
  few_bytes ts cs rows new zip apart are =
      omega (
        arith,
        bytes_of_changes ts cs zip apart (row_of rows),
        total_same (row_of new) (λ t. row_after cs t (row_of rows t)) ts (λ t there. are t),
        within_rows new ts apart,
      )
