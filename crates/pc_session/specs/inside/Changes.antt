-- Edits of a cell's entries, what they ask and what is found of that.
use Rattle.std.specs.Prelude.{◌≡◌, ℕ, ◌+◌, ◌<◌, ◌≤◌, Bool, true, false, List, [], ◌∷◌, Option, None, Some, length, map, Contains, slice_get}
use Rattle.std.specs.List.{AllZip}
use Rattle.pc_sheet.specs.Entailment.{cell_sizes}
use Rattle.pc_sheet.specs.Limits.{most_cells}
use Rattle.pc_sheet.specs.Sheet.{Sheet}
use Rattle.pc_sheet.specs.WellFormed.{IsWellFormed}
use Rattle.pc_sheet.specs.declared.ids.CellId.{CellId}
use Rattle.pc_sheet.specs.declared.ids.Entry.{Entry}
use Rattle.pc_sheet.specs.declared.ids.Target.{Target}
use Rattle.pc_parts.specs.Parts.{Part}
use Rattle.pc_components.specs.View.{number_of}
use Rattle.pc_justify_laws.specs.Edits.{edited, IsEditOf}
use Rattle.pc_search.specs.Found.{IsFound}
use Rattle.pc_search.specs.Parts.{AreWorldsOf}
use Rattle.pc_theory.specs.Theories.{rules_alone, IsPartNumbered}
use Rattle.pc_theory.specs.Spendings.{IsSpendingOf, LearnsWithin}
use Rattle.pc_session.specs.inside.Stale.{stale_on}
use Rattle.pc_session.specs.inside.Taken.{takes}
use Rattle.pc_session.specs.declared.change.Change.{Change}
use Rattle.pc_session.specs.declared.edit.Edit.{Edit}
use Rattle.pc_session.specs.declared.searching.Asked.{Asked}
use Rattle.pc_session.specs.declared.state.State.{State}

-- what is added, as a list
abbrev pub as_list : Option Entry → List Entry
as_list None = []
as_list (Some e) = e ∷ []

-- whether an entry is added
abbrev pub adds_one : Option Entry → Bool
adds_one None = false
adds_one (Some e) = true

-- the sheet that the edit makes
abbrev pub made_of : Sheet → Change → Sheet
made_of sheet change = edited sheet (takes change.taken) (as_list change.added)

-- an edit of a cell of the sheet that leaves it well formed
pub record IsChangeOf (sheet : Sheet) (change : Change) : Type 0 where
  pub cell : change.cell.0 < length (cell_sizes sheet.universe)
  pub is_edit : IsEditOf change.cell (takes change.taken) (as_list change.added)
  pub formed : IsWellFormed (made_of sheet change)

-- The part of that number has the cell, these are its worlds before the edit, where no entry is added, and the targets are those on its
-- cells that the edit can change.
pub record IsAskedFor (s : State) (change : Change) (asked : Asked) : Type 0 where
  pub few : asked.part ≤ most_cells
  pub part : Part
  pub numbered : IsPartNumbered (rules_alone s.book) asked.part part
  pub has : Contains part.cells change.cell.0
  pub cells : List CellId
  pub at : slice_get s.theory.components.cells asked.part ≡ Some cells
  pub are : part.cells ≡ map number_of cells
  pub targets : asked.targets.items ≡ stale_on s.cache.rows (takes change.taken) (adds_one change.added) (cell_sizes s.book.universe) cells
  pub worlds : change.added ≡ None → (p : Part) → IsPartNumbered (rules_alone s.book) asked.part p → AreWorldsOf s.book p asked.worlds

-- In the edited book: these are the worlds of the part of that number, a row for each of the targets was found, and so much was spent within
-- the limit on the part.
pub record IsFoundOf (book : Sheet) (c : CellId) (number : ℕ) (targets : List Target) (limit : ℕ) (edit : Edit) : Type 0 where
  pub part : edit.part ≡ number
  pub worlds : (p : Part) → IsPartNumbered (rules_alone book) number p → AreWorldsOf book p edit.worlds
  pub each : AllZip (IsFound book (edit.spending.tally.learned + edit.spending.tally.calls)) targets edit.patch.rows
  pub spends : IsSpendingOf book (Some c) edit.spending
  pub spare : LearnsWithin edit.spending.tally
  pub limited : edit.spending.tally.limit ≡ limit
