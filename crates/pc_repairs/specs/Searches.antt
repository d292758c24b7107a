-- Searches of a whole sheet: what they derive, and what they spend.
use Rattle.std.specs.Prelude.{◌≡◌, ℕ, ◌<◌, ◌≤◌, List, [], ◌∷◌, ◌++◌, length}
use Rattle.pc_lits.specs.declared.literal.Lit.{Lit}
use Rattle.pc_lits.specs.declared.tally.Tally.{Tally}
use Rattle.pc_log.specs.declared.log.StepId.{StepId}
use Rattle.pc_log.specs.Lines.{LogLine}
use Rattle.pc_sheet.specs.Sheet.{Sheet}
use Rattle.pc_ground.specs.Ground.{clauses}
use Rattle.pc_ground.specs.Variables.{variable_count}
use Rattle.pc_problem.specs.Laws.{problem_of}
use Rattle.pc_solver.specs.InLog.{clause_on}
use Rattle.pc_solver.specs.Solver.{Problem, IsLawfulLog}
use Rattle.pc_solver.specs.Spending.{SpendsIn}
use Rattle.pc_theory.specs.WholeSpendings.{all_axioms, all_variables, IsWholeSpending}

-- all of the sheet's axioms, over the variables of all of its pairs and nodes
abbrev pub whole_problem : Sheet → Problem
whole_problem sheet = problem_of sheet (all_axioms sheet) (all_variables sheet) []

-- the line stands, and has no literal
pub record IsRefutedAt (sheet : Sheet) (log : List LogLine) (last : StepId) : Type 0 where
  pub stands : last.0 < length log
  pub empty : clause_on (clauses sheet) log last ≡ []

-- The log is lawful, with these clauses as its blocks, and with it at most so many calls were spent: whatever was spent on the
-- whole sheet before, with at most two logs, with this one it is that and what was spent now.
pub record IsWholeSearch (sheet : Sheet) (blocks : List (List Lit)) (most : ℕ) (before after : Tally) (log : List LogLine) : Type 0 where
  pub lawful : IsLawfulLog (whole_problem sheet) blocks log
  pub spends : SpendsIn (variable_count sheet) most before after [] log
  pub adds : (logs : List (List LogLine)) → length logs ≤ 2 → IsWholeSpending sheet logs before → IsWholeSpending sheet (logs ++ log ∷ []) after
