-- What stands while the parts of a sheet are searched, one after the other.
use Rattle.std.specs.Prelude.{◌≡◌, ℕ, ◌+◌, ◌<◌, ◌≤◌, List, [], length, sum_by, None, Some, Contains, slice_get, slice_index_or}
use Rattle.pc_sheet.specs.Sheet.{Sheet}
use Rattle.pc_sheet.specs.Entailment.{cell_sizes}
use Rattle.pc_sheet.specs.declared.ids.CellId.{CellId}
use Rattle.pc_sheet.specs.declared.ids.Target.{Target}
use Rattle.pc_parts.specs.Parts.{Part}
use Rattle.pc_components.specs.View.{Kept}
use Rattle.pc_reason.specs.Reasons.{Justification}
use Rattle.pc_reason.specs.Targets.{IsTargetIn}
use Rattle.pc_justify_laws.specs.Reasons.{IsRowFor}
use Rattle.pc_cache.specs.Rows.{TargetRow, row_after}
use Rattle.pc_world_list.specs.Worlds.{WorldView}
use Rattle.pc_search.specs.Found.{Finds, steps_in}
use Rattle.pc_search.specs.Parts.{AreWorldsOf}
use Rattle.pc_solver.specs.declared.stop.Stop.{Stop}
use Rattle.pc_solver.specs.declared.stop.Stop.TheVariants.{Spent, Memory}
use Rattle.pc_theory.specs.Theories.{rules_alone, IsPartNumbered}
use Rattle.pc_theory.specs.Targets.{targets_on}
use Rattle.pc_theory.specs.Spendings.{learned_of, calls_of}
use Rattle.pc_theory.specs.inside.Spent.{IsSearchedOn}
use Rattle.pc_theory.specs.inside.Starting.{ArePlaces}
use Rattle.pc_theory.specs.declared.spending.PartSpending.{PartSpending}

-- the rows of all targets on the part's cells were added, none with more steps than clauses were learned and calls made for the part
pub record FindsIn (sheet : Sheet) (kept : Kept) (place : PartSpending) (before after : List TargetRow) : Type 0 where
  pub cells : List CellId
  pub at : slice_get kept.cells place.part ≡ Some cells
  pub finds : Finds sheet (place.tally.learned + place.tally.calls) (targets_on (cell_sizes sheet.universe) cells) before after

-- more was spent on the part, and as much more in all
pub record IsMoved (sheet : Sheet) (kept : Kept) (spent : ℕ) (place : PartSpending) (more : ℕ) (moved : PartSpending) : Type 0 where
  pub numbered : moved.part ≡ place.part
  pub spent_on : IsSearchedOn sheet None kept moved
  pub placed : more + place.tally.placed ≡ spent + moved.tally.placed
  pub learned : place.tally.learned ≤ moved.tally.learned
  pub calls : place.tally.calls ≤ moved.tally.calls

-- Spent: all that the budget allows was placed, and this on the part. Memory says nothing.
abbrev pub StopMoves : Sheet → Kept → ℕ → ℕ → PartSpending → ℕ → PartSpending → Stop → Type 0
StopMoves sheet kept budget spent place more moved Spent = (more ≡ budget) × IsMoved sheet kept spent place more moved
StopMoves sheet kept budget spent place more moved Memory = Unit {0}

-- the same of all parts
abbrev pub StopPlaces : Sheet → Kept → ℕ → ℕ → List PartSpending → Stop → Type 0
StopPlaces sheet kept budget spent parts Spent = (spent ≡ budget) × ArePlaces sheet kept spent parts
StopPlaces sheet kept budget spent parts Memory = Unit {0}

-- how many steps a row may have
abbrev pub work_of : List PartSpending → ℕ
work_of parts = sum_by learned_of parts + sum_by calls_of parts

-- the first n parts have their worlds, and the rows of the targets on their cells are right
pub record AreSearched (sheet : Sheet) (kept : Kept) (n : ℕ) (worlds : List (List WorldView)) (changes : List TargetRow) (spent : ℕ) (parts : List PartSpending) : Type 0 where
  pub count : length worlds ≡ n
  pub worlds_of : (j : ℕ) (p : Part) → j < n → IsPartNumbered (rules_alone sheet) j p → AreWorldsOf sheet p (slice_index_or worlds j [])
  pub answered : (t : Target) → IsTargetIn sheet.universe t → (j : ℕ) (cells : List CellId) → j < n → slice_get kept.cells j ≡ Some cells → Contains cells t.cell → IsRowFor sheet t (row_after changes t None)
  pub only : (t : Target) (k : Justification) → row_after changes t None ≡ Some k → steps_in k.lines ≤ work_of parts
  pub targets : (r : TargetRow) → Contains changes r → IsTargetIn sheet.universe r.target
  pub places : ArePlaces sheet kept spent parts
