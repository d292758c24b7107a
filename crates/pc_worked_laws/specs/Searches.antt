-- Which commands need a search, after which too much may be spent.
use Rattle.std.specs.Prelude.{◌≢◌, [], ◌∷◌, ◌++◌, Option, Some, codes}
use Rattle.pc_sheet.specs.Sheet.{Sheet}
use Rattle.pc_sheet.specs.WellFormed.{is_of_cell}
use Rattle.pc_sheet.specs.declared.ids.CellId.{CellId}
use Rattle.pc_sheet.specs.declared.ids.Entry.{Entry}
use Rattle.pc_laws.specs.Examples.{red, green, entry, chain}
use Rattle.pc_books.specs.Edits.{is_same_entry, entered}
use Rattle.pc_elaborate.specs.Elaboration.{IsEntryNamed, IsCellNamed}
use Rattle.pc_session.specs.Answers.{AreSpare}
use Rattle.pc_syntax.specs.Tree.{Asked, asks_enter, asks_also, asks_clear, asks_clear_one, Cell, Value, name_value}
use Rattle.pc_spreadsheet.specs.Allowed.{NeedsSearch}
use Rattle.pc_worked_laws.specs.Several.{cell_of, views, with_views}

-- ---- of any sheet

-- a command that changes nothing needs no search
abbrev pub SearchesChange : Type 0
SearchesChange = (sheet : Sheet) (a : Asked) (cell : Option CellId) (made : Sheet) → NeedsSearch sheet a cell made → made ≢ sheet

-- nor does one that clears a cell, or an entry, of which nothing is in an implied target's least support
abbrev pub ClearingSpareIsNoSearch : Type 0
ClearingSpareIsNoSearch = (sheet : Sheet) (c : Cell) (cell : Option CellId) (made : Sheet) → ((k : CellId) → IsCellNamed sheet.universe c k → AreSpare sheet (is_of_cell k)) → ¬ NeedsSearch sheet (asks_clear c) cell made

abbrev pub RemovingSpareIsNoSearch : Type 0
RemovingSpareIsNoSearch = (sheet : Sheet) (c : Cell) (v : Value) (cell : Option CellId) (made : Sheet)
    → ((e : Entry) → IsEntryNamed sheet.universe c v e → AreSpare sheet (is_same_entry e)) → ¬ NeedsSearch sheet (asks_clear_one c v) cell made

-- an entry that changes the sheet needs one
abbrev pub EnteringNeedsOne : Type 0
EnteringNeedsOne = (sheet : Sheet) (c : Cell) (v : Value) (e : Entry) → IsEntryNamed sheet.universe c v e → entered sheet e ≢ sheet → NeedsSearch sheet (asks_enter c v) (Some e.cell) (entered sheet e)

-- ---- where a = b and b = c, a is red, c is red, and a is also green

-- as they are written
abbrev pub a_cell : Cell
a_cell = record { name = codes "a"; args = [] }

abbrev pub b_cell : Cell
b_cell = record { name = codes "b"; args = [] }

abbrev pub c_cell : Cell
c_cell = record { name = codes "c"; args = [] }

abbrev pub red_value : Value
red_value = name_value (codes "red")

abbrev pub green_value : Value
green_value = name_value (codes "green")

pub record WorkedSearches : Type 0 where
  -- enter a = red: it stands, but not alone
  pub entered_first : NeedsSearch with_views (asks_enter a_cell red_value) (Some (cell_of 0)) (chain (entry 0 red ∷ entry 2 red ∷ []))
  -- also b = red
  pub added : NeedsSearch with_views (asks_also b_cell red_value) (Some (cell_of 1)) (chain (views ++ entry 1 red ∷ []))
  -- clear a, clear a = green
  pub cleared : NeedsSearch with_views (asks_clear a_cell) (Some (cell_of 0)) (chain (entry 2 red ∷ []))
  pub removed : NeedsSearch with_views (asks_clear_one a_cell green_value) (Some (cell_of 0)) (chain (entry 0 red ∷ entry 2 red ∷ []))
  -- enter c = red, also a = red, clear b and clear c = red
  pub entered_alone : (cell : Option CellId) (made : Sheet) → ¬ NeedsSearch with_views (asks_enter c_cell red_value) cell made
  pub added_standing : (cell : Option CellId) (made : Sheet) → ¬ NeedsSearch with_views (asks_also a_cell red_value) cell made
  pub cleared_empty : (cell : Option CellId) (made : Sheet) → ¬ NeedsSearch with_views (asks_clear b_cell) cell made
  pub cleared_spare : (cell : Option CellId) (made : Sheet) → ¬ NeedsSearch with_views (asks_clear c_cell) cell made
  pub removed_spare : (cell : Option CellId) (made : Sheet) → ¬ NeedsSearch with_views (asks_clear_one c_cell red_value) cell made
