-- The display as JSON: an array with an object for each cell, which has its entries, what they clash with, and its implied values
-- with their reasons.
use Rattle.std.specs.Prelude.{◌≡◌, ℕ, List, [], ◌∷◌, codes, length, map, Option, Some, None}
use Rattle.std.specs.List.{flat_map}
use Rattle.serde_json.specs.Data.{Data, null, string, array, object, member, no_members}
use Rattle.serde_json.specs.View.{items_of}
use Rattle.serde_json.specs.Written.{compact_text}
use Rattle.pc_sheet.specs.Sheet.{Universe, Sheet}
use Rattle.pc_sheet.specs.Sizes.{size_of}
use Rattle.pc_sheet.specs.Cells.{cells, values_below}
use Rattle.pc_sheet.specs.WellFormed.{entries_of}
use Rattle.pc_sheet.specs.declared.ids.SortId.{SortId}
use Rattle.pc_sheet.specs.declared.ids.CellId.{CellId}
use Rattle.pc_sheet.specs.declared.ids.ValueId.{ValueId}
use Rattle.pc_sheet.specs.declared.ids.Entry.{Entry}
use Rattle.pc_writer.specs.Spelling.{value_text, cell_text, entry_text, sort_of}
use Rattle.pc_writer.specs.SheetText.{ended}
use Rattle.pc_display.specs.Supports.{Reasoning, IsReasoning}
use Rattle.pc_display.specs.Show.{conflict_of, reason_of, cells_below}

abbrev pub array_of : List Data → Data
array_of ds = array (items_of ds)

-- ---- what a cell has

abbrev pub entry_data : Universe → Entry → Data
entry_data u e = string (entry_text u e)

-- entries by their texts, oldest first
abbrev pub entries_data : Universe → List Entry → Data
entries_data u es = array_of (map (entry_data u) es)

-- null for none, one as it is, and an array of several
abbrev pub one_or_all : List Data → Data
one_or_all [] = null
one_or_all (d ∷ []) = d
one_or_all (d ∷ e ∷ ds) = array_of (d ∷ e ∷ ds)

abbrev pub value_data : Universe → SortId → Entry → Data
value_data u s e = string (value_text u s e.value)

-- the values of the cell's entries, oldest first
abbrev pub entered_data : Universe → SortId → List Entry → Data
entered_data u s es = one_or_all (map (value_data u s) es)

-- what an entry clashes with, or null where it has no conflict
abbrev pub conflict_data : Universe → Option (List Entry) → Data
conflict_data u None = null
conflict_data u (Some support) = entries_data u support

-- of each of the cell's entries, oldest first
abbrev pub conflicts_data : Universe → Reasoning → List Entry → Data
conflicts_data u reason es = one_or_all (map (λ e. conflict_data u (conflict_of reason e)) es)

-- a value with its reason
abbrev pub reasoned_data : Data → List ℕ → Data
reasoned_data because value = object (member (codes "because") because (member (codes "value") (string value) no_members))

-- a value with its least support, where it is implied
abbrev pub implied_data : Universe → SortId → ValueId → Option (List Entry) → List Data
implied_data u s v None = []
implied_data u s v (Some support) = reasoned_data (entries_data u support) (value_text u s v) ∷ []

-- of each value in the sort's order
abbrev pub all_implied_data : Universe → Reasoning → CellId → List Data
all_implied_data u reason c = flat_map (λ v. implied_data u (sort_of u c) v (reason_of reason c v)) (values_below (size_of u (sort_of u c)))

-- ---- the whole display

abbrev pub object_data : List ℕ → Data → Data → Data → Data
object_data cell conflict entry implied =
    object (member (codes "cell") (string cell) (member (codes "conflict") conflict (member (codes "entry") entry (member (codes "implied") implied no_members))))

abbrev pub cell_data : Sheet → Reasoning → CellId → Data
cell_data sheet reason c =
    let u = sheet.universe in
    let es = entries_of c sheet.entries in
    object_data (cell_text u c) (conflicts_data u reason es) (entered_data u (sort_of u c) es) (array_of (all_implied_data u reason c))

-- an object for each cell, in the order of cells
abbrev pub sheet_data : Sheet → Reasoning → Data
sheet_data sheet reason = array_of (map (cell_data sheet reason) (cells_below (length (cells sheet.universe))))

-- written without spaces
abbrev pub json_text : Sheet → Reasoning → List ℕ
json_text sheet reason = compact_text (sheet_data sheet reason)

-- the display of a sheet as JSON: each value and each conflict by its least support
abbrev pub IsJson : Sheet → List ℕ → Type 0
IsJson sheet text = (reason : Reasoning) × IsReasoning sheet reason × (text ≡ json_text sheet reason)

-- what a text gives back that is read as JSON
abbrev pub IsJsonData : Sheet → Data → Type 0
IsJsonData sheet found = (reason : Reasoning) × IsReasoning sheet reason × (found ≡ sheet_data sheet reason)

-- the display as JSON, and a line feed
abbrev pub IsJsonLine : Sheet → List ℕ → Type 0
IsJsonLine sheet text = (found : List ℕ) × IsJson sheet found × (text ≡ ended found)
