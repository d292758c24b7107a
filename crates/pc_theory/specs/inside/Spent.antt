-- What is spent on a part by searches that take the kept ones of its axioms.
use Rattle.std.specs.Prelude.{◌≡◌, ℕ, ◌+◌, ◌*◌, ◌≤◌, Bool, List, length, sum_by, All, Option, Some, slice_get}
use Rattle.pc_lits.specs.declared.literal.Var.{Var}
use Rattle.pc_log.specs.Lines.{LogLine}
use Rattle.pc_sheet.specs.Sheet.{Sheet}
use Rattle.pc_sheet.specs.Entailment.{cell_sizes}
use Rattle.pc_sheet.specs.declared.ids.CellId.{CellId}
use Rattle.pc_parts.specs.Parts.{Part}
use Rattle.pc_parts.specs.PartSheets.{sheet_of}
use Rattle.pc_components.specs.View.{Kept}
use Rattle.pc_problem.specs.Laws.{problem_of}
use Rattle.pc_solver.specs.Spending.{marked}
use Rattle.pc_worlds.specs.Parts.{IsSolverListing}
use Rattle.pc_theory.specs.Theories.{rules_alone, IsPartNumbered}
use Rattle.pc_theory.specs.Spendings.{IsSetOf, AreFewCalls, LearnsWithin, IsTouched}
use Rattle.pc_theory.specs.declared.spending.PartSpending.{PartSpending}

-- a log that a solver leaves over these axioms and variables, with what is banned, each of whose blocks is the clause of the part's entries that aren't in some maximal set
abbrev pub IsSearchedLog : Sheet → Part → List ℕ → List Var → List (Option Bool) → List LogLine → Type 0
IsSearchedLog sheet part used own banned log = IsSolverListing (cell_sizes sheet.universe) (sheet_of sheet part).entries (IsSetOf sheet part) (problem_of sheet used own banned) log

-- on a part whose searches take these axioms, over these variables
pub record IsSearchedSpending (sheet : Sheet) (part : Part) (used : List ℕ) (own : List Var) (banned : List (Option Bool)) (s : PartSpending) : Type 0 where
  pub placed : s.tally.placed ≤ length own * (s.tally.learned + s.tally.calls)
  pub spare : LearnsWithin s.tally
  pub few_calls : AreFewCalls sheet part s.tally.calls
  pub few_logs : length s.logs.items ≤ 3
  pub learned : sum_by marked s.logs.items ≡ s.tally.learned
  pub logs : All (IsSearchedLog sheet part used own banned) s.logs.items

-- the part of that number is touched, and this was spent on it
pub record IsSearchedOn (sheet : Sheet) (touched : Option CellId) (kept : Kept) (s : PartSpending) : Type 0 where
  pub part : Part
  pub used : List ℕ
  pub own : List Var
  pub numbered : IsPartNumbered (rules_alone sheet) s.part part
  pub used_are : slice_get kept.axioms s.part ≡ Some used
  pub own_are : slice_get kept.variables s.part ≡ Some own
  pub is_touched : IsTouched touched part
  pub spent : IsSearchedSpending sheet part used own kept.banned s
