-- What searches of a whole sheet spend.
use Rattle.std.specs.Prelude.{◌≡◌, ℕ, ◌+◌, ◌*◌, ◌≤◌, List, [], length, map, sum_by, All}
use Rattle.std.specs.List.{range_with_len}
use Rattle.pc_lits.specs.declared.literal.Var.{Var}
use Rattle.pc_lits.specs.declared.tally.Tally.{Tally}
use Rattle.pc_log.specs.Lines.{LogLine}
use Rattle.pc_sheet.specs.Sheet.{Sheet}
use Rattle.pc_sheet.specs.Entailment.{cell_sizes}
use Rattle.pc_sheet.specs.MaximalSets.{IsMaximalSet}
use Rattle.pc_ground.specs.Ground.{clauses}
use Rattle.pc_ground.specs.Variables.{variable_count}
use Rattle.pc_problem.specs.Laws.{problem_of}
use Rattle.pc_solver.specs.Spending.{marked}
use Rattle.pc_worlds.specs.Parts.{IsListingLog}

-- the numbers of all axioms of the sheet
abbrev pub all_axioms : Sheet → List ℕ
all_axioms sheet = range_with_len 0 (length (clauses sheet))

abbrev pub variable_of : ℕ → Var
variable_of n = record { 0 = n }

-- the variables of all pairs and nodes of the sheet
abbrev pub all_variables : Sheet → List Var
all_variables sheet = map variable_of (range_with_len 0 (variable_count sheet))

-- A lawful log of the sheet's axioms and variables, each of whose blocks is the clause of the entries that aren't in some maximal set.
abbrev pub IsWholeLog : Sheet → List LogLine → Type 0
IsWholeLog sheet log = IsListingLog (cell_sizes sheet.universe) sheet.entries (IsMaximalSet sheet) (problem_of sheet (all_axioms sheet) (all_variables sheet) []) log

-- so much was spent on the whole sheet, with these logs
pub record IsWholeSpending (sheet : Sheet) (logs : List (List LogLine)) (tally : Tally) : Type 0 where
  pub placed : tally.placed ≤ variable_count sheet * (tally.learned + tally.calls)
  pub few_logs : length logs ≤ 3
  pub learned : sum_by marked logs ≡ tally.learned
  pub lawful : All (IsWholeLog sheet) logs

-- ... up to its limit
pub record IsSpentWhole (sheet : Sheet) (logs : List (List LogLine)) (tally : Tally) : Type 0 where
  pub spending : IsWholeSpending sheet logs tally
  pub all_placed : tally.placed ≡ tally.limit
