-- The numbers that sum a sheet up.
use Rattle.std.specs.Prelude.{◌≡◌, ℕ, suc, true, List, [], ◌∷◌, length, map}
use Rattle.std.specs.List.{flat_map}
use Rattle.pc_sheet.specs.Sheet.{Universe, Sheet}
use Rattle.pc_sheet.specs.Sizes.{size_of}
use Rattle.pc_sheet.specs.Cells.{cells, values_below}
use Rattle.pc_sheet.specs.Entailment.{IsImplied, IsConflict}
use Rattle.pc_sheet.specs.declared.ids.CellId.{CellId}
use Rattle.pc_sheet.specs.declared.ids.ValueId.{ValueId}
use Rattle.pc_sheet.specs.declared.ids.Entry.{Entry}
use Rattle.pc_sheet.specs.declared.ids.Target.{Target}
use Rattle.pc_writer.specs.Spelling.{sort_of}
use Rattle.pc_display.specs.Show.{cells_below}
use Rattle.pc_spreadsheet.specs.declared.summary.Summary.{Summary}

-- so many of these have the property
pub data IsCount {A : Type 0} (P : A → Type 0) : List A → ℕ → Type 0 where
  none_left : IsCount P [] 0
  counted : {x : A} {xs : List A} {n : ℕ} → P x → IsCount P xs n → IsCount P (x ∷ xs) (suc n)
  passed_over : {x : A} {xs : List A} {n : ℕ} → ¬ P x → IsCount P xs n → IsCount P (x ∷ xs) n

-- some sublist of the entries is the least support of the entry's opposite
abbrev pub HasConflict : Sheet → Entry → Type 0
HasConflict sheet e = (s : List Entry) × IsConflict sheet s e

-- that the cell has the value
abbrev pub that_has : CellId → ValueId → Target
that_has c v = record { cell = c; value = v; holds = true }

-- ... each value of its sort, in the sort's order
abbrev pub values_of : Universe → CellId → List Target
values_of u c = map (that_has c) (values_below (size_of u (sort_of u c)))

-- ... of each cell, in the order of cells
abbrev pub pairs_of : Universe → List Target
pairs_of u = flat_map (values_of u) (cells_below (length (cells u)))

-- how many cells and entries there are, how many entries have a conflict, and how many pairs of a cell and a value are implied
pub record IsSummary (sheet : Sheet) (summary : Summary) : Type 0 where
  pub cells_are : summary.cells ≡ length (cells sheet.universe)
  pub entries_are : summary.entries ≡ length sheet.entries
  pub conflicts_are : IsCount (HasConflict sheet) sheet.entries summary.conflicts
  pub implied_are : IsCount (IsImplied sheet) (pairs_of sheet.universe) summary.implied
