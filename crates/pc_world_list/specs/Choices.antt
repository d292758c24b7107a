-- What may be kept together, part by part: the parts of a sheet that have entries, and their maximal sets.
use Rattle.std.specs.Prelude.{◌≡◌, ℕ, List, map, Some, slice_get}
use Rattle.pc_sheet.specs.Sheet.{Sheet}
use Rattle.pc_sheet.specs.declared.ids.CellId.{CellId}
use Rattle.pc_parts.specs.Parts.{Part}
use Rattle.pc_parts.specs.PartSheets.{sheet_of}
use Rattle.pc_world_list.specs.Worlds.{WorldView, AreExact}
use Rattle.pc_world_list.specs.Chosen.{chosen_parts}

-- the chosen part of that number
abbrev pub IsChosen : Sheet → ℕ → Part → Type 0
IsChosen sheet i part = slice_get (chosen_parts sheet) i ≡ Some part

abbrev pub cell_number : CellId → ℕ
cell_number c = c.0

-- the cells of the chosen part of that number
pub record AreCellsOf (sheet : Sheet) (i : ℕ) (cells : List CellId) : Type 0 where
  pub part : Part
  pub is : IsChosen sheet i part
  pub cells_are : map cell_number cells ≡ part.cells

-- exactly the maximal sets of the chosen part of that number, each once, each with an assignment that has it and makes every piece of the part true
pub record AreSetsOf (sheet : Sheet) (i : ℕ) (worlds : List WorldView) : Type 0 where
  pub part : Part
  pub is : IsChosen sheet i part
  pub exact : AreExact (sheet_of sheet part) worlds
