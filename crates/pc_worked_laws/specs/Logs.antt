-- Lawful and unlawful logs of the sheet in which the cells a and b are equal, and a = red and b = green are entered.
use Rattle.std.specs.Prelude.{◌≡◌, ℕ, true, false, List, [], ◌∷◌, ◌++◌, map}
use Rattle.std.specs.List.{range_with_len}
use Rattle.pc_lits.specs.declared.literal.Var.{Var}
use Rattle.pc_lits.specs.declared.literal.Lit.{Lit}
use Rattle.pc_log.specs.declared.log.StepId.{StepId}
use Rattle.pc_log.specs.Lines.{LogLine, AxiomLine, BlockLine, StepLine}
use Rattle.pc_log.specs.Derivations.{IsGoodLine}
use Rattle.pc_laws.specs.Examples.{equal_cells}
use Rattle.pc_sheet.specs.MaximalSets.{IsMaximalSet}
use Rattle.pc_ground.specs.Ground.{clauses}
use Rattle.pc_solver.specs.InLog.{AreAxiomsOnce, AreStepsShort}
use Rattle.pc_solver.specs.New.{AreNewClauses}
use Rattle.pc_solver.specs.Solver.{Problem, IsLawfulLog, IsSolverLog}
use Rattle.pc_worlds.specs.Parts.{IsListingLog}
use Rattle.pc_worked_laws.specs.Trails.{plus, minus}

-- ---- the sheet's clauses: a = red, a = green, b = red, b = green and the rule have the variables from 0 to 4

abbrev pub equal_clauses : List (List Lit)
equal_clauses =
    (plus 0 ∷ plus 1 ∷ []) ∷ (minus 0 ∷ minus 1 ∷ []) ∷ (plus 2 ∷ plus 3 ∷ []) ∷ (minus 2 ∷ minus 3 ∷ []) ∷ (plus 4 ∷ [])
    ∷ (minus 0 ∷ minus 2 ∷ plus 4 ∷ []) ∷ (minus 0 ∷ minus 3 ∷ minus 4 ∷ []) ∷ (minus 1 ∷ minus 2 ∷ minus 4 ∷ []) ∷ (minus 1 ∷ minus 3 ∷ plus 4 ∷ []) ∷ []

-- all of them
abbrev pub all_axioms : List ℕ
all_axioms = range_with_len 0 9

abbrev pub all_variables : List Var
all_variables = map (λ n. record { 0 = n }) (range_with_len 0 5)

abbrev pub equal_problem : Problem
equal_problem = record { axioms = equal_clauses; used = all_axioms; own = all_variables; banned = [] }

-- ---- logs

abbrev pub step : ℕ → StepId
step place = record { 0 = place }

-- a learned clause with the places of its hints
abbrev pub learned_by : List Lit → List ℕ → LogLine
learned_by clause places = StepLine clause (map step places) true

-- the set with a = red has a block: that b is green
abbrev pub green_block : List (List Lit)
green_block = (plus 3 ∷ []) ∷ []

-- the rule is true; where it is, not both are so; and the block
abbrev pub three_lines : List LogLine
three_lines = AxiomLine 4 ∷ AxiomLine 6 ∷ BlockLine 0 (plus 3 ∷ []) ∷ []

-- that a isn't red
abbrev pub good_log : List LogLine
good_log = three_lines ++ learned_by (minus 0 ∷ []) (2 ∷ 0 ∷ 1 ∷ []) ∷ []

-- the clause that says why is missing
abbrev pub with_hint_missing : List LogLine
with_hint_missing = three_lines ++ learned_by (minus 0 ∷ []) (2 ∷ 0 ∷ []) ∷ []

abbrev pub with_later_hint : List LogLine
with_later_hint = three_lines ++ learned_by (minus 0 ∷ []) (3 ∷ []) ∷ []

abbrev pub with_tautology : List LogLine
with_tautology = learned_by (plus 0 ∷ minus 0 ∷ []) [] ∷ []

abbrev pub with_axiom_learned : List LogLine
with_axiom_learned = AxiomLine 4 ∷ learned_by (plus 4 ∷ []) (0 ∷ []) ∷ []

abbrev pub with_clause_twice : List LogLine
with_clause_twice = good_log ++ learned_by (minus 0 ∷ []) (3 ∷ []) ∷ []

abbrev pub with_block_learned : List LogLine
with_block_learned = BlockLine 0 (plus 3 ∷ []) ∷ learned_by (plus 3 ∷ []) (0 ∷ []) ∷ []

-- the block of the empty set
abbrev pub with_large_block : List LogLine
with_large_block = BlockLine 0 (plus 0 ∷ plus 3 ∷ []) ∷ []

-- there is no variable of number 5
abbrev pub with_foreign_variable : List LogLine
with_foreign_variable = StepLine (plus 5 ∷ minus 5 ∷ []) [] false ∷ []

pub record WorkedNewClauses : Type 0 where
  pub new : AreNewClauses equal_clauses good_log
  -- a line that isn't marked as learned counts for nothing
  pub unmarked : AreNewClauses equal_clauses with_foreign_variable
  pub tautology : ¬ AreNewClauses equal_clauses with_tautology
  pub axiom_learned : ¬ AreNewClauses equal_clauses with_axiom_learned
  pub twice : ¬ AreNewClauses equal_clauses with_clause_twice
  pub block_learned : ¬ AreNewClauses equal_clauses with_block_learned

pub record WorkedLawfulLogs : Type 0 where
  pub clauses_are : clauses equal_cells ≡ equal_clauses
  pub lawful : IsLawfulLog equal_problem green_block good_log
  pub hint_missing : ¬ IsLawfulLog equal_problem green_block with_hint_missing
  pub later_hint : ¬ IsLawfulLog equal_problem green_block with_later_hint
  pub axiom_of_others : ¬ IsLawfulLog (record equal_problem { used = [] }) green_block good_log
  pub another_block : ¬ IsLawfulLog equal_problem ((plus 0 ∷ []) ∷ []) good_log
  pub of_no_block : ¬ IsLawfulLog equal_problem [] good_log
  pub foreign_variable : ¬ IsLawfulLog equal_problem green_block with_foreign_variable
  pub tautology : ¬ IsLawfulLog equal_problem [] with_tautology

-- the rule's line stands twice
abbrev pub with_axiom_twice : List LogLine
with_axiom_twice = AxiomLine 4 ∷ AxiomLine 4 ∷ []

-- the block is a hint again and again
abbrev pub hint_again : LogLine
hint_again = learned_by (minus 0 ∷ []) (2 ∷ 2 ∷ 2 ∷ 2 ∷ 0 ∷ 1 ∷ [])

abbrev pub with_hint_again : List LogLine
with_hint_again = three_lines ++ hint_again ∷ []

pub record WorkedSmallLogs : Type 0 where
  pub once : AreAxiomsOnce all_axioms good_log
  pub twice : ¬ AreAxiomsOnce all_axioms with_axiom_twice
  -- two lines want two places
  pub other_places : ¬ AreAxiomsOnce (3 ∷ 4 ∷ 5 ∷ []) with_axiom_twice
  pub two_places : AreAxiomsOnce (4 ∷ 4 ∷ []) with_axiom_twice
  pub short : AreStepsShort all_variables good_log
  -- a good step may be too long
  pub good_again : IsGoodLine equal_clauses with_hint_again hint_again
  pub again : ¬ AreStepsShort all_variables with_hint_again
  pub solver_twice : ¬ IsSolverLog equal_problem green_block with_axiom_twice
  pub solver_again : ¬ IsSolverLog equal_problem green_block with_hint_again

pub record WorkedListingLogs : Type 0 where
  pub listing : IsListingLog (2 ∷ 2 ∷ []) equal_cells.entries (IsMaximalSet equal_cells) equal_problem good_log
  -- the empty set isn't maximal
  pub of_no_set : ¬ IsListingLog (2 ∷ 2 ∷ []) equal_cells.entries (IsMaximalSet equal_cells) equal_problem with_large_block
  pub not_lawful : ¬ IsListingLog (2 ∷ 2 ∷ []) equal_cells.entries (IsMaximalSet equal_cells) equal_problem with_hint_missing
