-- The parts that a statement reads, and what is on them.
use Rattle.std.specs.Prelude.{◌≡◌, ℕ, ◌-◌, ◌==◌, Bool, List, Some, false, filter, length, map, slice_get, slice_index_or}
use Rattle.std.specs.List.{AllZip, list_any}
use Rattle.pc_sheet.specs.Sheet.{Sheet}
use Rattle.pc_sheet.specs.declared.ids.CellId.{CellId}
use Rattle.pc_sheet.specs.declared.ids.Entry.{Entry}
use Rattle.pc_sheet.specs.declared.ids.ValueId.{ValueId}
use Rattle.pc_parts.specs.Leaves.{cells_of}
use Rattle.pc_parts.specs.PartSheets.{is_among}
use Rattle.pc_parts.specs.Pieces.{pieces}
use Rattle.pc_world_list.specs.Chosen.{chosen_parts}
use Rattle.pc_reason.specs.Fitting.{IsFitting}
use Rattle.pc_repairs.specs.inside.Joining.{IsPartSets}
use Rattle.pc_repairs.specs.declared.part_sets.PartSets.{PartSets}

-- one of the cells is read
abbrev pub are_read : List ℕ → List CellId → Bool
are_read reads cells = list_any (λ c. is_among reads c.0) cells

abbrev pub is_read : List ℕ → PartSets → Bool
is_read reads p = are_read reads p.cells.now

-- whether the cell of that number has a mark
abbrev pub has_mark : List Bool → ℕ → Bool
has_mark marks c = slice_index_or marks c false

-- the marks of the cells that are read
abbrev pub AreMarksOf : List ℕ → List Bool → Type 0
AreMarksOf reads marks = (c : ℕ) → has_mark marks c ≡ is_among reads c

-- one of the cells has a mark
abbrev pub are_marked : List Bool → List CellId → Bool
are_marked marks cells = list_any (λ c. has_mark marks c.0) cells

abbrev pub is_marked : List Bool → PartSets → Bool
is_marked marks p = are_marked marks p.cells.now

abbrev pub is_cell_of : CellId → PartSets → Bool
is_cell_of c p = list_any (λ d. d.0 == c.0) p.cells.now

-- the entry is on a cell of one of the parts
abbrev pub is_on_some : List PartSets → Entry → Bool
is_on_some parts e = list_any (is_cell_of e.cell) parts

-- what each piece of the sheet reads
abbrev pub reads_of : Sheet → List (List ℕ)
reads_of sheet = map (cells_of sheet.universe) (pieces sheet)

abbrev pub AreLastReads : Sheet → List ℕ → Type 0
AreLastReads sheet reads = slice_get (reads_of sheet) (length (reads_of sheet) - 1) ≡ Some reads

-- The parts of a sheet with a cell that the book's last piece reads, the book's entries on their cells, and an assignment that fits.
pub record AreCandidates (sheet book : Sheet) (entries : List Entry) (fitting : List ValueId) (parts : List PartSets) : Type 0 where
  pub fit : IsFitting sheet fitting
  pub reads : List ℕ
  pub last : AreLastReads book reads
  pub qs : List PartSets
  pub zip : AllZip (IsPartSets sheet) (chosen_parts sheet) qs
  pub entries_are : entries ≡ filter (is_on_some (filter (is_read reads) qs)) book.entries
  pub parts_are : parts ≡ filter (is_read reads) qs
