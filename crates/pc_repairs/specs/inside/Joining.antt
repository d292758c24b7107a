-- Assignments that are joined of the parts' own.
use Rattle.std.specs.Prelude.{◌≡◌, ℕ, ◌<◌, ◌≤◌, ◌==◌, Bool, false, List, [], ◌∷◌, ◌++◌, length, map, filter, set, slice_get, slice_index_or, All, Option, None, Some}
use Rattle.pc_sheet.specs.Sheet.{Sheet}
use Rattle.pc_sheet.specs.declared.ids.CellId.{CellId}
use Rattle.pc_sheet.specs.declared.ids.ValueId.{ValueId}
use Rattle.pc_sheet.specs.declared.ids.Entry.{Entry}
use Rattle.pc_parts.specs.Parts.{Part}
use Rattle.pc_parts.specs.PartSheets.{sheet_of}
use Rattle.pc_world_list.specs.Worlds.{WorldView, AreExact}
use Rattle.pc_world_list.specs.Choices.{cell_number}
use Rattle.pc_repairs.specs.declared.part_sets.PartSets.{PartSets}

-- the part's cells, and its maximal sets with assignments that make each of its pieces true
pub record IsPartSets (sheet : Sheet) (part : Part) (p : PartSets) : Type 0 where
  pub cells_are : map cell_number p.cells.now ≡ part.cells
  pub exact : AreExact (sheet_of sheet part) p.sets.now

abbrev pub many_sets : PartSets → ℕ
many_sets p = length p.sets.now

-- so many, or 65 where there are more than 64
pub record IsCapped (count total : ℕ) : Type 0 where
  pub few : total ≤ 64 → count ≡ total
  pub more : 64 < total → count ≡ 65

-- its cells are among so many, and its assignments are of so many
pub record IsSized (count : ℕ) (p : PartSets) : Type 0 where
  pub cells : All (λ c. c.0 < count) p.cells.now
  pub sets : All (λ w. length w.shown ≡ count) p.sets.now

abbrev pub blank : ValueId
blank = record { 0 = 0 }

-- these cells have the values that the other assignment gives them
abbrev pub laid_over : List ValueId → List CellId → List ValueId → List ValueId
laid_over values [] own = values
laid_over values (c ∷ cs) own = laid_over (set values c.0 (slice_index_or own c.0 blank)) cs own

-- each of the assignments with the cells' values of that one
abbrev pub all_laid : List (List ValueId) → List CellId → List ValueId → List (List ValueId)
all_laid all cells own = map (λ values. laid_over values cells own) all

-- ... with those of each world, world by world
abbrev pub laid_by_world : List (List ValueId) → List CellId → List WorldView → List (List ValueId)
laid_by_world all cells [] = []
laid_by_world all cells (w ∷ ws) = all_laid all cells w.shown ++ laid_by_world all cells ws

-- an assignment for each way to choose one set of each part
abbrev pub joined_by : List ValueId → List PartSets → List (List ValueId)
joined_by fitting [] = fitting ∷ []
joined_by fitting (p ∷ ps) = laid_by_world (joined_by fitting ps) p.cells.now p.sets.now

-- ---- what an assignment has

abbrev pub is_value : Option ValueId → ValueId → Bool
is_value None v = false
is_value (Some w) v = w.0 == v.0

abbrev pub is_had : List ValueId → Entry → Bool
is_had values e = is_value (slice_get values e.cell.0) e.value

abbrev pub had_by : List Entry → List ValueId → List Entry
had_by entries values = filter (is_had values) entries

-- the assignment with the entries that it has
abbrev pub world_had : List Entry → List ValueId → WorldView
world_had entries values = record { entries = had_by entries values; shown = values }
