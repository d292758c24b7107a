-- What is known of the variables around a place.
use Rattle.std.specs.Prelude.{◌≡◌, ℕ, ◌<◌, ◌≤◌, List, length, Some, slice_get}
use Rattle.pc_sheet.specs.Limits.{most_depth}
use Rattle.pc_sheet.specs.Sheet.{Universe}
use Rattle.pc_sheet.specs.WellSorted.{Variables}
use Rattle.pc_sheet.specs.declared.ids.SortId.{SortId}
use Rattle.pc_elaborate.specs.FormulaFaults.{IsDeclared}

-- different names that nothing declared has, of declared sorts, and at most sixteen
pub record IsScope (u : Universe) (vs : Variables) : Type 0 where
  pub different : (n : List ℕ) (j k : ℕ) (s t : SortId) → slice_get vs j ≡ Some (n, s) → slice_get vs k ≡ Some (n, t) → j ≡ k
  pub undeclared : (n : List ℕ) (k : ℕ) (s : SortId) → slice_get vs k ≡ Some (n, s) → ¬ IsDeclared u n
  pub sorts : (n : List ℕ) (k : ℕ) (s : SortId) → slice_get vs k ≡ Some (n, s) → s.0 < length u.sorts
  pub depth : length vs ≤ most_depth
