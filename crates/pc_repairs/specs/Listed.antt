-- What could be kept together, part by part: the order of sets, what is listed of a part, and the text.
use Rattle.std.specs.Prelude.{◌≡◌, ◌↔◌, ℕ, List, [], ◌∷◌, ◌++◌, codes, AllPairs, Contains}
use Rattle.std.specs.List.{flat_map}
use Rattle.pc_sheet.specs.Sheet.{Universe, Sheet}
use Rattle.pc_sheet.specs.MaximalSets.{ListsExactly, IsMaximalSet}
use Rattle.pc_sheet.specs.declared.ids.CellId.{CellId}
use Rattle.pc_sheet.specs.declared.ids.Entry.{Entry}
use Rattle.pc_parts.specs.Parts.{Part}
use Rattle.pc_parts.specs.PartSheets.{sheet_of}
use Rattle.pc_writer.specs.Spelling.{cell_text, entries_text}
use Rattle.pc_writer.specs.SheetText.{ended}

-- ---- the order of sets

-- the oldest entry on which the two differ is in the first
pub record ComesFirst (entries s t : List Entry) : Type 0 where
  pub older : List Entry
  pub oldest : Entry
  pub newer : List Entry
  pub order : entries ≡ older ++ oldest ∷ newer
  pub same : (e : Entry) → Contains older e → Contains s e ↔ Contains t e
  pub has : Contains s oldest
  pub lacks : ¬ Contains t oldest

-- ---- what is listed

-- a part by its first cell, with its maximal sets
pub record ListedPart : Type 0 where
  pub cell : CellId
  pub sets : List (List Entry)

-- all maximal sets of the part, each once, in their order
pub record IsListedPart (sheet : Sheet) (part : Part) (listed : ListedPart) : Type 0 where
  pub later : List ℕ
  pub first : part.cells ≡ listed.cell.0 ∷ later
  pub exact : ListsExactly (List Entry) (IsMaximalSet (sheet_of sheet part)) listed.sets
  pub order : AllPairs (ComesFirst sheet.entries) listed.sets

-- ---- its text

abbrev pub keep_text : Universe → List Entry → List ℕ
keep_text u [] = codes "nothing"
keep_text u (e ∷ es) = entries_text u (e ∷ es)

abbrev pub keep_line : Universe → List Entry → List ℕ
keep_line u s = ended (codes "  keep " ++ keep_text u s)

-- a line with the first cell, and then a line for each set
abbrev pub part_lines : Universe → ListedPart → List ℕ
part_lines u listed = ended (codes "part " ++ cell_text u listed.cell) ++ flat_map (keep_line u) listed.sets

abbrev pub listing_text : Universe → List ListedPart → List ℕ
listing_text u listing = flat_map (part_lines u) listing
