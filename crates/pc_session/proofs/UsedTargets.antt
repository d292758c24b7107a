-- Whether the reason of some target rests on an entry that is taken away, target by target.
use Rattle.std.proofs.Common.{◌≡◌, ℕ, suc, ◌+◌, ◌<◌, inl, inr, Bool, true, false, List, [], ◌∷◌, length, take, get_or, Contains, Some, slice_get, arith, ap, sym, ◌∙◌, subst}
use Rattle.std.proofs.lemmas.Bool.{false≢true}
use Rattle.std.proofs.lemmas.List.{take_more}
use Rattle.std.proofs.lemmas.Option.{get_or_from_slice_get}
use Rattle.pc_sheet.specs.declared.ids.CellId.{CellId}
use Rattle.pc_sheet.specs.declared.ids.Entry.{Entry}
use Rattle.pc_sheet.specs.declared.ids.Target.{Target}
use Rattle.pc_components.specs.Pairs.{size_at}
use Rattle.pc_cache.specs.Rows.{TargetRow, row_of}
use Rattle.pc_theory.specs.Targets.{target_of_value, targets_on_cell, targets_on}
use Rattle.pc_lemmas.proofs.Elements.{contains_cases, contains_none}
use Rattle.pc_theory.proofs.Lists.{at_contained}
use Rattle.pc_session.proofs.Places.{get_at, in_append}
use Rattle.pc_theory.proofs.OnCells.{of_cell_has, has_of_cell, on_has, on_push}
use Rattle.pc_session.specs.inside.Stale.{is_stale}

pub there_of_cell : (cell : CellId) (n v : ℕ) (holds : Bool) (t : Target) → t ≡ target_of_value cell v holds → v < n → Contains (targets_on_cell cell n) t
there_of_cell cell n v holds t is below =
    let of : Target → CellId = λ x. x.cell in
    let value : Target → ℕ = λ x. x.value.0 in
    of_cell_has t cell n (ap of is) (omega (arith, ap value is, below))

pub none_more : (rows : List TargetRow) (gone : Entry → Bool) (cell : CellId) (n : ℕ) (s t : Target) (used also : Bool) → s ≡ target_of_value cell n true → t ≡ target_of_value cell n false → used ≡ is_stale gone false (row_of rows s) → also ≡ is_stale gone false (row_of rows t)
    → used ≡ false → also ≡ false → ((u : Target) → Contains (targets_on_cell cell n) u → is_stale gone false (row_of rows u) ≡ true → ⊥)
    → (u : Target) → Contains (targets_on_cell cell (n + 1)) u → is_stale gone false (row_of rows u) ≡ true → ⊥
none_more rows gone cell n s t used also is_s is_t told_s told_t none_s none_t before u there uses =
    let one_more : n + 1 ≡ suc n = omega arith in
    let test : Target → Bool = λ x. is_stale gone false (row_of rows x) in
    elim (in_append (targets_on_cell cell n) (target_of_value cell n true ∷ target_of_value cell n false ∷ []) u (subst (λ k. Contains (targets_on_cell cell k) u) one_more there)) [
      | inl early ↦ before u early uses
      | inr late ↦ elim (contains_cases (target_of_value cell n true) (target_of_value cell n false ∷ []) u late) [
        | inl here ↦ false≢true (sym none_s ∙ (told_s ∙ (ap test (is_s ∙ here) ∙ uses)))
        | inr later ↦ elim (contains_cases (target_of_value cell n false) [] u later) [
          | inl here ↦ false≢true (sym none_t ∙ (told_t ∙ (ap test (is_t ∙ here) ∙ uses)))
          | inr none ↦ contains_none u none
        ]
      ]
    ]

pub there_on : (sizes : List ℕ) (cells : List CellId) (i count : ℕ) (d : CellId) (t : Target) → i < length cells → slice_get sizes (get_or cells i d).0 ≡ Some count → Contains (targets_on_cell (get_or cells i d) count) t → Contains (targets_on sizes cells) t
there_on sizes cells i count d t below at there =
    let h = has_of_cell t (get_or cells i d) count there in
    let size : size_at sizes (get_or cells i d) ≡ count = get_or_from_slice_get sizes (get_or cells i d).0 count 0 at in
    on_has sizes cells t (subst (Contains cells) (sym h.0) (at_contained cells i (get_or cells i d) (get_at cells i d below))) (subst (λ x. t.value.0 < size_at sizes x) (sym h.0) (omega (arith, h.1, size)))

pub none_on : (sizes : List ℕ) (cells : List CellId) (i count : ℕ) (d : CellId) (test : Target → Bool) → i < length cells → slice_get sizes (get_or cells i d).0 ≡ Some count
    → ((t : Target) → Contains (targets_on sizes (take i cells)) t → test t ≡ true → ⊥) → ((t : Target) → Contains (targets_on_cell (get_or cells i d) count) t → test t ≡ true → ⊥)
    → (t : Target) → Contains (targets_on sizes (take (i + 1) cells)) t → test t ≡ true → ⊥
none_on sizes cells i count d test below at before here t there uses =
    let cell = get_or cells i d in
    let size : size_at sizes cell ≡ count = get_or_from_slice_get sizes cell.0 count 0 at in
    let split = subst (λ cs. Contains (targets_on sizes cs) t) (take_more cells i d below) there in
    elim (in_append (targets_on sizes (take i cells)) (targets_on_cell cell (size_at sizes cell)) t (subst (λ ts. Contains ts t) (on_push sizes (take i cells) cell) split)) [
      | inl early ↦ before t early uses
      | inr late ↦ here t (subst (λ n. Contains (targets_on_cell cell n) t) size late) uses
    ]
