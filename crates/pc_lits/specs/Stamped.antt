-- Cells that count while their stamp is the present one.
use Rattle.std.specs.Prelude.{ℕ, ◌<◌, ◌≤◌, ◌==◌, Bool, List, Option, Some, None, map, All, if◌then◌else◌}
use Rattle.pc_lits.specs.declared.values.Cell.{Cell}

-- the value of a cell that was written since the last clearing
abbrev pub cell_value : ℕ → Cell → Option Bool
cell_value present cell = if cell.stamp == present then Some cell.value else None

abbrev pub shown : ℕ → List Cell → List (Option Bool)
shown present cells = map (cell_value present) cells

-- no stamp is later than the present one, and a blank cell's is earlier
pub record AreStamped (present : ℕ) (cells : List Cell) : Type 0 where
  pub started : 0 < present
  pub not_later : All (λ cell. cell.stamp ≤ present) cells
