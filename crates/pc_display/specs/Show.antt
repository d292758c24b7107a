-- The display line by line: each cell with its entries, its implied values with their reasons, and what its entries clash with.
use Rattle.std.specs.Prelude.{◌≡◌, ℕ, zero, suc, Bool, true, false, List, [], ◌∷◌, ◌++◌, codes, length, map, Option, Some, None, is_some}
use Rattle.std.specs.List.{flat_map, list_any}
use Rattle.pc_writer.specs.SheetText.{ended}
use Rattle.pc_sheet.specs.Entailment.{opposite_of}
use Rattle.pc_sheet.specs.Sheet.{Universe, Sheet}
use Rattle.pc_sheet.specs.Sizes.{size_of}
use Rattle.pc_sheet.specs.Cells.{cells, values_below}
use Rattle.pc_sheet.specs.WellFormed.{entries_of}
use Rattle.pc_sheet.specs.declared.ids.SortId.{SortId}
use Rattle.pc_sheet.specs.declared.ids.CellId.{CellId}
use Rattle.pc_sheet.specs.declared.ids.ValueId.{ValueId}
use Rattle.pc_sheet.specs.declared.ids.Entry.{Entry}
use Rattle.pc_writer.specs.Spelling.{value_text, cell_text, sort_of, joined, entries_text}
use Rattle.pc_display.specs.Supports.{Reasoning, IsReasoning}

-- ---- what a cell has

-- the least support of the opposite of the entry, where it has one
abbrev pub conflict_of : Reasoning → Entry → Option (List Entry)
conflict_of reason e = reason (opposite_of e)

-- whether some of the entries has a conflict
abbrev pub have_conflict : Reasoning → List Entry → Bool
have_conflict reason es = list_any (λ e. is_some (conflict_of reason e)) es

-- the reason why the cell has that value
abbrev pub reason_of : Reasoning → CellId → ValueId → Option (List Entry)
reason_of reason c v = reason (record { cell = c; value = v; holds = true })

-- ---- lines

-- texts with commas between them, or a dash where there are none
abbrev pub listed_texts : List (List ℕ) → List ℕ
listed_texts [] = codes "-"
listed_texts (text ∷ texts) = joined (codes ", ") (text ∷ texts)

-- the values of entries, oldest first
abbrev pub entered_texts : Universe → SortId → List Entry → List (List ℕ)
entered_texts u s es = map (λ e. value_text u s e.value) es

abbrev pub entered_text : Universe → SortId → List Entry → List ℕ
entered_text u s es = listed_texts (entered_texts u s es)

abbrev pub mark_of : Bool → List ℕ
mark_of false = []
mark_of true = codes " !"

-- the cell, its entries' values or a dash, and a mark where an entry has a conflict
abbrev pub head_line : Universe → CellId → List Entry → Bool → List ℕ
head_line u c es clashes = ended (cell_text u c ++ (codes " : " ++ (entered_text u (sort_of u c) es ++ mark_of clashes)))

abbrev pub because : Universe → List Entry → List ℕ
because u [] = codes " always"
because u (e ∷ es) = codes " because " ++ entries_text u (e ∷ es)

-- a value with its least support, where it is implied
abbrev pub value_line : Universe → SortId → ValueId → Option (List Entry) → List ℕ
value_line u s v None = []
value_line u s v (Some support) = ended (codes "  = " ++ (value_text u s v ++ because u support))

-- of each value in the sort's order
abbrev pub value_lines : Universe → Reasoning → CellId → List ℕ
value_lines u reason c = flat_map (λ v. value_line u (sort_of u c) v (reason_of reason c v)) (values_below (size_of u (sort_of u c)))

abbrev pub against : Universe → List Entry → List ℕ
against u [] = codes "the rules"
against u (e ∷ es) = entries_text u (e ∷ es)

-- there are two or more
abbrev pub are_several : List Entry → Bool
are_several [] = false
are_several (e ∷ []) = false
are_several (e ∷ f ∷ es) = true

-- what tells an entry from the cell's others, where there are others: its value
abbrev pub value_told : Universe → SortId → Bool → ValueId → List ℕ
value_told u s false v = []
value_told u s true v = value_text u s v ++ codes " "

-- what an entry of that value clashes with, where it has a conflict
abbrev pub conflict_line : Universe → SortId → Bool → ValueId → Option (List Entry) → List ℕ
conflict_line u s several v None = []
conflict_line u s several v (Some support) = ended (codes "  ! " ++ (value_told u s several v ++ (codes "against " ++ against u support)))

-- of each of the cell's entries, oldest first
abbrev pub conflict_lines : Universe → Reasoning → SortId → List Entry → List ℕ
conflict_lines u reason s es = flat_map (λ e. conflict_line u s (are_several es) e.value (conflict_of reason e)) es

abbrev pub cell_lines : Sheet → Reasoning → CellId → List ℕ
cell_lines sheet reason c =
    let u = sheet.universe in
    let es = entries_of c sheet.entries in
    head_line u c es (have_conflict reason es) ++ (value_lines u reason c ++ conflict_lines u reason (sort_of u c) es)

-- ---- the whole display

abbrev pub cells_below : ℕ → List CellId
cells_below zero = []
cells_below (suc n) = cells_below n ++ record { 0 = n } ∷ []

-- the lines of each cell, in the order of cells
abbrev pub show_text : Sheet → Reasoning → List ℕ
show_text sheet reason = flat_map (cell_lines sheet reason) (cells_below (length (cells sheet.universe)))

-- the display of a sheet: each value and each conflict by its least support
abbrev pub IsShown : Sheet → List ℕ → Type 0
IsShown sheet text = (reason : Reasoning) × IsReasoning sheet reason × (text ≡ show_text sheet reason)
