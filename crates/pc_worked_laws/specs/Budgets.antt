-- What is enough for a sheet of two parts: part by part, and as a whole.
use Rattle.std.specs.Prelude.{◌≡◌, [], ◌∷◌, None, Some, codes}
use Rattle.pc_sheet.specs.Sheet.{Sheet}
use Rattle.pc_components.specs.View.{Kept}
use Rattle.pc_enough_laws.specs.Amounts.{enough}
use Rattle.pc_enough_laws.specs.Enough.{enough_for, enough_for_all}
use Rattle.pc_laws.specs.Examples.{red, entry, colored, cells_and_rules}
use Rattle.pc_worked_laws.specs.Several.{cell_of}
use Rattle.pc_worked_laws.specs.Trails.{plus}

-- two cells of two values each, which no rule ties together, and an entry of the second
abbrev pub two_cells : Sheet
two_cells = cells_and_rules (colored (codes "a") ∷ colored (codes "b") ∷ []) [] (entry 1 red ∷ [])

-- each is a part with two variables, of which it takes the axioms 0 and 1, or 2 and 3
abbrev pub two_kept : Kept
two_kept = record {
  cells = (cell_of 0 ∷ []) ∷ (cell_of 1 ∷ []) ∷ [];
  axioms = (0 ∷ 1 ∷ []) ∷ (2 ∷ 3 ∷ []) ∷ [];
  variables = ((plus 0).variable ∷ (plus 1).variable ∷ []) ∷ ((plus 2).variable ∷ (plus 3).variable ∷ []) ∷ [];
  numbers = 0 ∷ 1 ∷ [];
  banned = [];
}

pub record WorkedPartBudgets : Type 0 where
  -- two variables and four targets, without an entry and with one
  pub of_first : enough 2 0 4 ≡ 78
  pub of_second : enough 2 1 4 ≡ 118
  -- an edit is of the part that it touches alone, and a load of both
  pub edit_of_first : enough_for two_cells (Some (cell_of 0)) two_kept ≡ 78
  pub edit_of_second : enough_for two_cells (Some (cell_of 1)) two_kept ≡ 118
  pub load : enough_for two_cells None two_kept ≡ 196
  -- four variables, an entry and eight targets
  pub as_one : enough_for_all two_cells ≡ 1196
