-- The display as a table: a line for each cell, with its entries, the mark of a conflict and its implied values in columns.
use Rattle.std.specs.Prelude.{◌≡◌, ℕ, ◌-◌, max, Bool, true, false, List, [], ◌∷◌, ◌++◌, codes, chars, length, map, replicate, Option, Some, None}
use Rattle.std.specs.List.{flat_map}
use Rattle.unicode_width.specs.Width.{str_width}
use Rattle.pc_sheet.specs.Sheet.{Universe, Sheet}
use Rattle.pc_sheet.specs.Sizes.{size_of}
use Rattle.pc_sheet.specs.Cells.{cells, values_below}
use Rattle.pc_sheet.specs.WellFormed.{entries_of}
use Rattle.pc_sheet.specs.declared.ids.SortId.{SortId}
use Rattle.pc_sheet.specs.declared.ids.CellId.{CellId}
use Rattle.pc_sheet.specs.declared.ids.ValueId.{ValueId}
use Rattle.pc_sheet.specs.declared.ids.Entry.{Entry}
use Rattle.pc_writer.specs.Spelling.{value_text, cell_text, sort_of}
use Rattle.pc_display.specs.Supports.{Reasoning, IsReasoning}
use Rattle.pc_display.specs.Show.{entered_text, have_conflict, listed_texts, reason_of, cells_below}
use Rattle.pc_writer.specs.SheetText.{ended}

-- ---- columns

-- how many columns a text takes in a terminal
abbrev pub columns : List ℕ → ℕ
columns text = str_width false (chars text)

-- the most columns that one of the texts takes
abbrev pub widest : List (List ℕ) → ℕ
widest [] = 0
widest (text ∷ texts) = max (columns text) (widest texts)

-- a text with spaces behind it, up to so many columns
abbrev pub padded : ℕ → List ℕ → List ℕ
padded width text = text ++ replicate (width - columns text) 32

-- ---- what stands in the columns

-- the values of the cell's entries, oldest first, or a dash
abbrev pub entry_column : Sheet → CellId → List ℕ
entry_column sheet c = entered_text sheet.universe (sort_of sheet.universe c) (entries_of c sheet.entries)

-- a mark where an entry has a conflict, and else a space
abbrev pub conflict_column : Bool → List ℕ
conflict_column false = codes " "
conflict_column true = codes "!"

-- a value, where it is implied
abbrev pub implied_text : Universe → SortId → ValueId → Option (List Entry) → List (List ℕ)
implied_text u s v None = []
implied_text u s v (Some support) = value_text u s v ∷ []

-- the implied values in the sort's order
abbrev pub implied_texts : Universe → Reasoning → CellId → List (List ℕ)
implied_texts u reason c = flat_map (λ v. implied_text u (sort_of u c) v (reason_of reason c v)) (values_below (size_of u (sort_of u c)))

-- ---- lines

-- two spaces stand between columns, and the last column isn't filled up
abbrev pub grid_line : Sheet → Reasoning → ℕ → ℕ → CellId → List ℕ
grid_line sheet reason cell_width entry_width c =
    let u = sheet.universe in
    let clashes = have_conflict reason (entries_of c sheet.entries) in
    ended (
    padded cell_width (cell_text u c) ++ (codes "  " ++ (padded entry_width (entry_column sheet c) ++ (codes "  " ++ (conflict_column clashes ++ (codes "  " ++ listed_texts (implied_texts u reason c))))))
    )

-- the line of each cell, in the order of cells; the cells and the entries are each filled up to the widest
abbrev pub grid_text : Sheet → Reasoning → List ℕ
grid_text sheet reason =
    let all = cells_below (length (cells sheet.universe)) in
    flat_map (grid_line sheet reason (widest (map (cell_text sheet.universe) all)) (widest (map (entry_column sheet) all))) all

-- the table of a sheet: its values and conflicts are those that least supports give
abbrev pub IsGrid : Sheet → List ℕ → Type 0
IsGrid sheet text = (reason : Reasoning) × IsReasoning sheet reason × (text ≡ grid_text sheet reason)
