-- The targets on some cells: for each cell and each of its values that the cell has the value, and that it hasn't.
use Rattle.std.specs.Prelude.{◌≡◌, ℕ, zero, suc, ◌*◌, ◌≤◌, Bool, true, false, List, [], ◌∷◌, ◌++◌, length, sum_by, All, Contains, Some, slice_get, slice_index_or}
use Rattle.pc_sheet.specs.declared.ids.CellId.{CellId}
use Rattle.pc_sheet.specs.declared.ids.Target.{Target}
use Rattle.pc_components.specs.Pairs.{size_at}
use Rattle.pc_components.specs.View.{Kept}

abbrev pub target_of_value : CellId → ℕ → Bool → Target
target_of_value c v holds = record { cell = c; value = record { 0 = v }; holds = holds }

-- of the cell's first n values
abbrev pub targets_on_cell : CellId → ℕ → List Target
targets_on_cell c zero = []
targets_on_cell c (suc n) = targets_on_cell c n ++ target_of_value c n true ∷ target_of_value c n false ∷ []

-- where the cells have so many values each
abbrev pub targets_on : List ℕ → List CellId → List Target
targets_on sizes [] = []
targets_on sizes (c ∷ cs) = targets_on_cell c (size_at sizes c) ++ targets_on sizes cs

-- two for each value of each of these cells
abbrev pub target_count : List ℕ → List ℕ → ℕ
target_count sizes cells = 2 * sum_by (λ c. slice_index_or sizes c 0) cells

-- Some of the targets on the cells of the part of that number, no more than there are.
pub record AreAsked (sizes : List ℕ) (kept : Kept) (part : ℕ) (ts : List Target) : Type 0 where
  pub cells : List CellId
  pub at : slice_get kept.cells part ≡ Some cells
  pub on : All (Contains (targets_on sizes cells)) ts
  pub few : length ts ≤ length (targets_on sizes cells)
