-- The targets of cells that have so many values each: cell by cell, value by value, that the cell has it and that it lacks it.
use Rattle.std.specs.Prelude.{ℕ, zero, suc, ◌+◌, Bool, true, false, List, [], ◌∷◌, ◌++◌}
use Rattle.pc_sheet.specs.declared.ids.Target.{Target}

abbrev pub target : ℕ → ℕ → Bool → Target
target c v holds = record { cell = record { 0 = c }; value = record { 0 = v }; holds = holds }

-- of a cell with so many values
abbrev pub targets_of_cell : ℕ → ℕ → List Target
targets_of_cell c zero = []
targets_of_cell c (suc n) = targets_of_cell c n ++ target c n true ∷ target c n false ∷ []

-- of these cells, of which the first has that number
abbrev pub targets_from : ℕ → List ℕ → List Target
targets_from c [] = []
targets_from c (n ∷ ns) = targets_of_cell c n ++ targets_from (c + 1) ns

abbrev pub targets : List ℕ → List Target
targets sizes = targets_from 0 sizes
