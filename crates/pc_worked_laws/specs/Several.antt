-- Cells with several entries: what they imply, what edits make of them, and how many a cell may have.
use Rattle.std.specs.Prelude.{◌≡◌, ℕ, zero, suc, pos, List, [], ◌∷◌, ◌++◌, codes}
use Rattle.pc_sheet.specs.Sheet.{range, Universe, Sheet}
use Rattle.pc_sheet.specs.Entailment.{IsConflict}
use Rattle.pc_sheet.specs.MaximalSets.{ListsExactly, IsMaximalSet, IsMinimalInconsistent}
use Rattle.pc_sheet.specs.WellFormed.{AreWellFormedEntries, entries_of}
use Rattle.pc_sheet.specs.declared.ids.CellId.{CellId}
use Rattle.pc_sheet.specs.declared.ids.ValueId.{ValueId}
use Rattle.pc_sheet.specs.declared.ids.Entry.{Entry}
use Rattle.pc_laws.specs.Examples.{entry, red, green, colored, cells_and_rules, chain}
use Rattle.pc_books.specs.Edits.{entered, also_entered, without_entry, without_cell}
use Rattle.pc_worked_laws.specs.LargestSets.{pair}

abbrev pub blue : ValueId
blue = record { 0 = 2 }

abbrev pub cell_of : ℕ → CellId
cell_of c = record { 0 = c }

-- ---- where a = b and b = c, a is red, c is red, and a is also green

abbrev pub views : List Entry
views = entry 0 red ∷ entry 2 red ∷ entry 0 green ∷ []

abbrev pub both_views : List Entry
both_views = entry 0 red ∷ entry 0 green ∷ []

abbrev pub with_views : Sheet
with_views = chain views

pub record WorkedViews : Type 0 where
  -- without any rule the two views of a cell clash
  pub clash : IsMinimalInconsistent (cells_and_rules (colored (codes "a") ∷ []) [] both_views) both_views
  pub clash_beside_others : IsMinimalInconsistent with_views both_views
  -- each view of a has its own conflict: the older one the newer, and the newer one the older, which says the same as c
  pub of_the_older : IsConflict with_views (entry 0 green ∷ []) (entry 0 red)
  pub of_the_newer : IsConflict with_views (entry 0 red ∷ []) (entry 0 green)
  pub of_the_other : IsConflict with_views (entry 0 green ∷ []) (entry 2 red)
  pub not_of_itself : ¬ IsConflict with_views (entry 0 green ∷ []) (entry 0 green)
  pub largest : ListsExactly (List Entry) (IsMaximalSet with_views) (pair (entry 0 red) (entry 2 red) ∷ (entry 0 green ∷ []) ∷ [])

-- ---- edits of it

pub record WorkedEdits : Type 0 where
  pub of_cell : entries_of (cell_of 0) views ≡ both_views
  pub of_none : entries_of (cell_of 1) views ≡ []
  -- the one that stands keeps its place, and the other view goes
  pub entered_first : entered with_views (entry 0 red) ≡ chain (entry 0 red ∷ entry 2 red ∷ [])
  pub entered_last : entered with_views (entry 0 green) ≡ chain (entry 2 red ∷ entry 0 green ∷ [])
  -- where it stands alone the sheet stays
  pub entered_alone : entered with_views (entry 2 red) ≡ with_views
  -- a new value takes the place of both
  pub entered_new : entered with_views (entry 0 blue) ≡ chain (entry 2 red ∷ entry 0 blue ∷ [])
  -- and stands beside both
  pub added_new : also_entered with_views (entry 0 blue) ≡ chain (views ++ entry 0 blue ∷ [])
  pub added_standing : also_entered with_views (entry 0 red) ≡ with_views
  pub removed : without_entry with_views (entry 0 red) ≡ chain (entry 2 red ∷ entry 0 green ∷ [])
  -- another value of the cell stands
  pub removed_none : without_entry with_views (entry 2 green) ≡ with_views
  pub cleared_cell : without_cell with_views (cell_of 0) ≡ chain (entry 2 red ∷ [])
  pub cleared_none : without_cell with_views (cell_of 1) ≡ with_views

-- ---- one cell with a number from 1 to 9

abbrev pub numbers : Universe
numbers = record {
  sorts = record { name = codes "n"; values = range (pos 1) (pos 9) } ∷ [];
  tables = [];
  families = record { name = codes "x"; sorts = []; result_sort = record { 0 = 0 } } ∷ [];
}

-- its first values, each entered beside the others
abbrev pub first_views : ℕ → List Entry
first_views zero = []
first_views (suc k) = first_views k ++ entry 0 (record { 0 = k }) ∷ []

pub record WorkedLimit : Type 0 where
  pub eight : AreWellFormedEntries numbers (first_views 8)
  pub nine : ¬ AreWellFormedEntries numbers (first_views 9)
  pub twice : ¬ AreWellFormedEntries numbers (entry 0 red ∷ entry 0 red ∷ [])
  -- there is no tenth value
  pub out_of_range : ¬ AreWellFormedEntries numbers (entry 0 (record { 0 = 9 }) ∷ [])
