-- That no clause is learned twice, and none that holds before any decision.
use Rattle.std.specs.Prelude.{◌≡◌, ℕ, ◌<◌, ◌≤◌, true, List, Some, Contains, slice_get}
use Rattle.pc_lits.specs.declared.literal.Lit.{Lit}
use Rattle.pc_lits.specs.Literals.{negated}
use Rattle.pc_lits.specs.Steps.{IsTautology}
use Rattle.pc_log.specs.declared.log.StepId.{StepId}
use Rattle.pc_log.specs.Lines.{LogLine, BlockLine, StepLine}
use Rattle.pc_lits.specs.Clauses.{IsSubclause}
use Rattle.pc_solver.specs.Forced.{IsForced}

-- the line at this place is marked as learned, and has this clause
abbrev pub IsLearnedAt : List LogLine → ℕ → List Lit → Type 0
IsLearnedAt log place clause = (hints : List StepId) × (slice_get log place ≡ Some (StepLine clause hints true))

-- Each learned clause of the log is no tautology. As a set of literals it contains no used axiom, no learned clause before it, and
-- no clause of a block line before it.
pub record AreNewClauses (used : List (List Lit)) (log : List LogLine) : Type 0 where
  pub no_tautology : (i : ℕ) (clause : List Lit) → IsLearnedAt log i clause → ¬ IsTautology negated clause
  pub no_axiom : (i : ℕ) (clause axiom_clause : List Lit) → IsLearnedAt log i clause → Contains used axiom_clause → ¬ IsSubclause axiom_clause clause
  pub no_learned : (i j : ℕ) (earlier clause : List Lit) → i < j → IsLearnedAt log i earlier → IsLearnedAt log j clause → ¬ IsSubclause earlier clause
  pub no_block_line : (i j number : ℕ) (block clause : List Lit) → i < j → slice_get log i ≡ Some (BlockLine number block) → IsLearnedAt log j clause → ¬ IsSubclause block clause

-- unit propagation by these clauses makes no literal of the clause true before any decision
abbrev pub HasNoForced : List (List Lit) → List Lit → Type 0
HasNoForced used clause = (l : Lit) → Contains clause l → ¬ IsForced (Contains used) l

-- that is so of each learned clause of the log
abbrev pub AvoidForced : List (List Lit) → List LogLine → Type 0
AvoidForced used log = (i : ℕ) (clause : List Lit) → IsLearnedAt log i clause → HasNoForced used clause

-- no learned clause of the log from this place on contains one of these
abbrev pub ContainNone : List (List Lit) → ℕ → List LogLine → Type 0
ContainNone blocks start log = (i : ℕ) (clause block : List Lit) → start ≤ i → IsLearnedAt log i clause → Contains blocks block → ¬ IsSubclause block clause
