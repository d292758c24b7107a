-- Clauses that may be reasons.
use Rattle.std.specs.Prelude.{◌≡◌, ◌≢◌, ℕ, ◌<◌, ◌⊎◌, List, Some, Contains, length}
use Rattle.pc_lits.specs.declared.literal.Lit.{Lit}
use Rattle.pc_lits.specs.Literals.{negated}
use Rattle.pc_log.specs.Lines.{LogLine}
use Rattle.pc_propagate.specs.declared.clauses.ClauseRef.{ClauseRef}
use Rattle.pc_propagate.specs.declared.trail.TrailEntry.{TrailEntry}
use Rattle.pc_propagate.specs.Levels.{level_at, IsReasonOf}
use Rattle.pc_propagate.specs.Watched.{IsFalseAt}
use Rattle.pc_solver.specs.Clauses.{KeepsProblem}
use Rattle.pc_solver.specs.InLog.{IsLogOf, LogGrows}
use Rattle.pc_solver.specs.inside.Search.{SearchView}

-- the literal became false before this place
abbrev pub IsFalseBefore : List TrailEntry → ℕ → Lit → Type 0
IsFalseBefore entries place m = (k : ℕ) × (k < place) × IsFalseAt entries k m

-- each literal of the clause but this one did
abbrev pub AreFalseBefore : List TrailEntry → ℕ → List Lit → Lit → Type 0
AreFalseBefore entries place clause l = (m : Lit) → Contains clause m → m ≢ l → IsFalseBefore entries place m

-- The clause's other literals became false before this one became true by some clause, at level 0, or at a level at which one of
-- them became false.
pub record IsReasonFor (entries : List TrailEntry) (clause : List Lit) (l : Lit) : Type 0 where
  pub place : ℕ
  pub at : IsFalseAt entries place (negated l)
  pub implied : (before : ClauseRef) × IsReasonOf entries l.variable (Some before)
  pub others : AreFalseBefore entries place clause l
  pub in_time : (level_at entries place ≡ 0)
      ⊎ ((m : Lit) × (k : ℕ) × Contains clause m × (m ≢ l) × IsFalseAt entries k m × (level_at entries k ≡ level_at entries place))

-- A clause that stands in the log may be among the clauses now, and the reason of a literal.
pub record KeepsReason (old new : SearchView) (log : List LogLine) : Type 0 where
  pub problem : KeepsProblem old.clauses new.clauses
  pub logged : IsLogOf new.clauses log
  pub variables : new.trail.variables ≡ old.trail.variables
  pub size : length new.trail.entries ≡ length old.trail.entries

-- A step was logged that isn't marked as learned, and its clause may be the reason of a literal.
pub record Derives (old new : SearchView) (log grown : List LogLine) : Type 0 where
  pub kept : KeepsReason old new grown
  pub grows : LogGrows log grown 0 1
