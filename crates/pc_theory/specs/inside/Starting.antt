-- What stands while the parts of a sheet make their first calls, one after the other.
use Rattle.std.specs.Prelude.{◌≡◌, ℕ, ◌<◌, ◌≤◌, ◌+◌, List, [], ◌∷◌, length, sum_by, All, slice_index_or, None}
use Rattle.pc_lits.specs.declared.tally.Tally.{Tally}
use Rattle.pc_log.specs.Lines.{LogLine}
use Rattle.pc_sheet.specs.Sheet.{Sheet}
use Rattle.pc_sheet.specs.Entailment.{IsAssignment, Fits}
use Rattle.pc_sheet.specs.declared.ids.ValueId.{ValueId}
use Rattle.pc_ground.specs.Naming.{names_of}
use Rattle.pc_parts.specs.Parts.{Part}
use Rattle.pc_parts.specs.PartSheets.{sheet_of}
use Rattle.pc_components.specs.View.{Kept}
use Rattle.pc_reason.specs.Refutations.{RefutesRules}
use Rattle.pc_problem.specs.Laws.{problem_of}
use Rattle.pc_search.specs.Found.{steps_in}
use Rattle.pc_solver.specs.Solver.{SuspendedView, SuspendedHasLog}
use Rattle.pc_solver.specs.declared.stop.Stop.{Stop}
use Rattle.pc_solver.specs.declared.stop.Stop.TheVariants as stop
use Rattle.pc_theory.specs.Theories.{rules_alone, IsPartNumbered}
use Rattle.pc_theory.specs.Spendings.{placed_of}
use Rattle.pc_theory.specs.inside.Spent.{IsSearchedOn}
use Rattle.pc_theory.specs.declared.spending.PartSpending.{PartSpending}
use Rattle.pc_theory.specs.declared.stop.Halt.{Halt}
use Rattle.pc_theory.specs.declared.stop.Halt.TheVariants.{Inconsistent, Spent, Memory}

-- The places are of the first parts, and so many literals were placed for them.
pub record ArePlaces (sheet : Sheet) (kept : Kept) (spent : ℕ) (parts : List PartSpending) : Type 0 where
  pub sum : spent ≡ sum_by placed_of parts
  pub numbered : (j : ℕ) (d : PartSpending) → j < length parts → (slice_index_or parts j d).part ≡ j
  pub each : All (IsSearchedOn sheet None kept) parts

-- The solver's log is the only one, and has at most as many steps as clauses were learned and calls made.
pub record HasOnlyLog (s : SuspendedView) (tally : Tally) (logs : List (List LogLine)) : Type 0 where
  pub log : List LogLine
  pub only : logs ≡ log ∷ []
  pub has : SuspendedHasLog s log
  pub steps : steps_in log ≤ tally.learned + tally.calls

-- The solver, which is without its trail, is one of the place's part, has made one call, and its log is the place's only one.
pub record IsStarted (sheet : Sheet) (kept : Kept) (place : PartSpending) (s : SuspendedView) : Type 0 where
  pub spent : IsSearchedOn sheet None kept place
  pub problem : s.problem ≡ problem_of sheet spent.used spent.own kept.banned
  pub no_blocks : s.blocks ≡ []
  pub only : HasOnlyLog s place.tally place.logs.items
  pub one_call : place.tally.calls ≤ 1

-- the first parts have their solvers, and the assignment fits each of them
pub record AreStarted (sheet : Sheet) (kept : Kept) (spent : ℕ) (base : List ValueId) (parts : List PartSpending) (solvers : List SuspendedView) : Type 0 where
  pub places : ArePlaces sheet kept spent parts
  pub many : length solvers ≡ length parts
  pub started : (j : ℕ) (d : PartSpending) (e : SuspendedView) → j < length parts → IsStarted sheet kept (slice_index_or parts j d) (slice_index_or solvers j e)
  pub assigns : IsAssignment sheet.universe base
  pub fits : (j : ℕ) (part : Part) → j < length parts → IsPartNumbered (rules_alone sheet) j part → Fits (sheet_of sheet part) base

abbrev pub halt_of : Stop → Halt
halt_of stop.Spent = Spent
halt_of stop.Memory = Memory

-- Inconsistent: the span refutes the rules. Spent: the limit is reached, by what was spent on the first parts. Memory says nothing.
abbrev pub HaltSays : Sheet → Kept → ℕ → ℕ → List PartSpending → Halt → Type 0
HaltSays sheet kept budget spent parts (Inconsistent log span) = RefutesRules sheet (names_of sheet) log span
HaltSays sheet kept budget spent parts Spent = (spent ≡ budget) × ArePlaces sheet kept spent parts
HaltSays sheet kept budget spent parts Memory = Unit {0}
