-- The parts of a line of the table, as they are written.
use Rattle.std.specs.Prelude.{ℕ, Bool, true, false, List, [], ◌∷◌, ◌++◌, codes}
use Rattle.pc_sheet.specs.Sheet.{Universe}
use Rattle.pc_sheet.specs.declared.ids.CellId.{CellId}
use Rattle.pc_sheet.specs.declared.ids.Entry.{Entry}
use Rattle.pc_writer.specs.Spelling.{cell_text, sort_of}
use Rattle.pc_display.specs.Show.{entered_text}
use Rattle.pc_display.specs.Grid.{conflict_column, padded}

-- all columns but the last
abbrev pub front_text : Universe → ℕ → ℕ → CellId → List Entry → Bool → List ℕ
front_text u cell_width entry_width c es clashes =
    padded cell_width (cell_text u c) ++ (codes "  " ++ (padded entry_width (entered_text u (sort_of u c) es) ++ (codes "  " ++ (conflict_column clashes ++ codes "  "))))

-- what parts a text from others before it
abbrev pub comma_after : Bool → List ℕ
comma_after false = []
comma_after true = codes ", "

-- a text behind others, where there is one
abbrev pub next_text : Bool → List (List ℕ) → List ℕ
next_text some [] = []
next_text some (text ∷ texts) = comma_after some ++ text

-- whether any text stands there then
abbrev pub some_more : Bool → List (List ℕ) → Bool
some_more some [] = some
some_more some (text ∷ texts) = true
