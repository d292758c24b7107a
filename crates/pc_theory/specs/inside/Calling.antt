-- The first call of a part's solver.
use Rattle.std.specs.Prelude.{◌≡◌, ℕ, List, [], Some, slice_get}
use Rattle.pc_lits.specs.declared.literal.Var.{Var}
use Rattle.pc_lits.specs.declared.tally.Tally.{Tally}
use Rattle.pc_log.specs.Lines.{LogLine}
use Rattle.pc_log.specs.declared.log.StepId.{StepId}
use Rattle.pc_sheet.specs.Sheet.{Sheet}
use Rattle.pc_sheet.specs.declared.ids.CellId.{CellId}
use Rattle.pc_ground.specs.Ground.{clauses}
use Rattle.pc_ground.specs.GroundView.{Grounded}
use Rattle.pc_ground.specs.Naming.{names_of}
use Rattle.pc_components.specs.View.{Kept}
use Rattle.pc_justify_laws.specs.Found.{clause_at_place, IsDerivedAt}
use Rattle.pc_reason.specs.Refutations.{RefutesRules}
use Rattle.pc_solver.specs.Answers.{truth_in, MeetsEach}
use Rattle.pc_solver.specs.Solver.{SolverView, SuspendedView, HasLog, clauses_used}
use Rattle.pc_theory.specs.inside.Starting.{IsStarted}
use Rattle.pc_theory.specs.declared.spending.PartSpending.{PartSpending}
use Rattle.pc_theory.specs.declared.starting.End.{End}
use Rattle.pc_theory.specs.declared.starting.End.TheVariants.{Met}
use Rattle.pc_theory.specs.declared.starting.End.TheVariants as end
use Rattle.pc_theory.specs.declared.stop.Halt.{Halt}
use Rattle.pc_theory.specs.declared.stop.Halt.TheVariants.{Inconsistent, Spent, Memory}

-- the line derives the empty clause
pub record IsEmptyAt (sheet : Sheet) (log : List LogLine) (last : StepId) : Type 0 where
  pub derived : IsDerivedAt sheet log last.0
  pub empty : clause_at_place (clauses sheet) log last.0 ≡ []

-- the rules are refuted, or memory was wanting
abbrev pub IsRefused : Sheet → Halt → Type 0
IsRefused sheet (Inconsistent log span) = RefutesRules sheet (names_of sheet) log span
IsRefused sheet Spent = ⊥
IsRefused sheet Memory = Unit {0}

-- the values meet the solver's axioms, or the limit is reached
abbrev pub EndSays : SolverView → Tally → End → Type 0
EndSays s tally Met = MeetsEach (truth_in s.trues) (clauses_used s.problem)
EndSays s tally end.Spent = tally.placed ≡ tally.limit

-- the solver of the part of that number, which has no block and no line in its log
pub record IsFresh (g : Grounded) (kept : Kept) (number : ℕ) (s : SolverView) : Type 0 where
  pub cells : List CellId
  pub used : List ℕ
  pub own : List Var
  pub cells_at : slice_get kept.cells number ≡ Some cells
  pub used_at : slice_get kept.axioms number ≡ Some used
  pub own_at : slice_get kept.variables number ≡ Some own
  pub problem : s.problem ≡ record { axioms = g.clauses; used = used; own = own; banned = kept.banned }
  pub no_block : s.blocks ≡ []
  pub no_line : HasLog s []

-- the solver without its trail
abbrev pub set_aside : SolverView → SuspendedView
set_aside s = record { problem = s.problem; blocks = s.blocks; clauses = s.clauses }

-- one call was made for the part of that number
pub record IsCalled (sheet : Sheet) (kept : Kept) (number limit : ℕ) (s : SolverView) (place : PartSpending) (how : End) : Type 0 where
  pub numbered : place.part ≡ number
  pub limit_is : place.tally.limit ≡ limit
  pub started : IsStarted sheet kept place (set_aside s)
  pub says : EndSays s place.tally how
