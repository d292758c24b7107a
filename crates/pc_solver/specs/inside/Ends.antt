-- What parts of a search come to.
use Rattle.std.specs.Prelude.{◌≡◌, ℕ, ◌<◌, ◌⊎◌, Bool, Option, Some, None, IsNone, List, Contains}
use Rattle.pc_lits.specs.declared.literal.Var.{Var}
use Rattle.pc_lits.specs.declared.literal.Lit.{Lit}
use Rattle.pc_lits.specs.declared.tally.Tally.{Tally}
use Rattle.pc_log.specs.declared.log.StepId.{StepId}
use Rattle.pc_log.specs.Lines.{LogLine}
use Rattle.pc_propagate.specs.declared.trail.Placed.{Placed}
use Rattle.pc_propagate.specs.declared.trail.Placed.TheVariants as placed
use Rattle.pc_propagate.specs.declared.trail.TrailEntry.{TrailEntry}
use Rattle.pc_propagate.specs.declared.clauses.ClauseRef.{ClauseRef}
use Rattle.pc_propagate.specs.declared.clauses.ClauseRef.TheVariants.{More}
use Rattle.pc_propagate.specs.Quiet.{IsQuiet}
use Rattle.pc_lits.specs.Literals.{negated}
use Rattle.pc_lits.specs.Values.{MakesTrue}
use Rattle.pc_lits.specs.Steps.{IsLastOpen}
use Rattle.pc_solver.specs.declared.learning.Learnt.{Learnt}
use Rattle.pc_solver.specs.declared.learning.Learnt.TheVariants.{Asserting, Restarted}
use Rattle.pc_propagate.specs.Entries.{literals, falses, HasValue}
use Rattle.pc_propagate.specs.Refs.{clause_at}
use Rattle.pc_lits.specs.Clauses.{IsOverNegated}
use Rattle.pc_solver.specs.declared.decisions.Next.{Next}
use Rattle.pc_solver.specs.declared.decisions.Next.TheVariants.{Place, Failed, Done}
use Rattle.pc_solver.specs.declared.outcome.Outcome.{Outcome}
use Rattle.pc_solver.specs.declared.outcome.Outcome.TheVariants.{Sat, Unsat, Spent, Memory}
use Rattle.pc_solver.specs.Clauses.{ClausesView, IsGiven}
use Rattle.pc_solver.specs.Banned.{trues_of}
use Rattle.pc_solver.specs.inside.Banning.{AreSet}
use Rattle.pc_solver.specs.InLog.{StandsInLog, IsLastStep}
use Rattle.pc_solver.specs.inside.Search.{SearchView, AreTrue, Advances, IsUnderWay}

-- each used axiom and each block has a literal that is true by the entries, or a banned one of a variable without a value
abbrev pub AreMet : ClausesView → List TrailEntry → Type 0
AreMet c entries = (r : ClauseRef) → IsGiven c r → (m : Lit) × Contains (clause_at c.axioms c.more r) m × Contains (trues_of c.own c.banned (literals entries)) m

-- what a search that ends says of its clauses, entries and log
abbrev pub EndSays : SearchView → List Lit → List LogLine → Tally → Outcome → Type 0
EndSays s assumed log tally Sat = AreMet s.clauses s.trail.entries × AreTrue s.trail.entries assumed
EndSays s assumed log tally (Unsat id) = (clause : List Lit) × StandsInLog s.clauses.axioms log id clause × IsOverNegated assumed clause × IsLastStep log id
EndSays s assumed log tally Spent = tally.placed ≡ tally.limit
EndSays s assumed log tally Memory = Unit {0}

-- one turn ends the search, or places a literal
abbrev pub TurnSays : SearchView → List Lit → List LogLine → Tally → Tally → Option Outcome → Type 0
TurnSays s assumed log before after None = before.placed < after.placed
TurnSays s assumed log before after (Some outcome) = EndSays s assumed log after outcome

-- one clause more may have been learned than literals were placed, where the search ended before a literal was placed
abbrev pub extra : Outcome → ℕ
extra outcome = 1

-- a refutation ends with a step that isn't marked
abbrev pub unmarked : Outcome → ℕ
unmarked Sat = 0
unmarked (Unsat id) = 1
unmarked Spent = 0
unmarked Memory = 0

abbrev pub turn_extra : Option Outcome → ℕ
turn_extra None = 0
turn_extra (Some outcome) = extra outcome

abbrev pub turn_unmarked : Option Outcome → ℕ
turn_unmarked None = 0
turn_unmarked (Some outcome) = unmarked outcome

-- What a turn leaves that isn't out of memory. Where it didn't end the search, that goes on.
pub record Turns (old new : SearchView) (assumed : List Lit) (before after : Tally) (log grown : List LogLine) (ended : Option Outcome) : Type 0 where
  pub advances : Advances old new before after log grown (turn_extra ended) (turn_unmarked ended)
  pub under_way : IsNone ended → IsUnderWay new assumed grown
  pub says : TurnSays new assumed grown before after ended

-- what is to be decided next
abbrev pub DecisionSays : List Var → List (Option Bool) → List TrailEntry → List Lit → Next → Type 0
DecisionSays own banned entries assumed (Place l) =
    Contains own l.variable × (¬ HasValue entries l.variable) × (Contains assumed l ⊎ AreTrue entries assumed) × (¬ MakesTrue banned (negated l))
DecisionSays own banned entries assumed (Failed l) = Contains assumed l × Contains (falses entries) l
DecisionSays own banned entries assumed Done = AreTrue entries assumed × AreSet own banned entries

-- what is to be done next of the assumptions
abbrev pub NextSays : List TrailEntry → List Lit → Next → Type 0
NextSays entries assumed (Place l) = Contains assumed l × (¬ HasValue entries l.variable)
NextSays entries assumed (Failed l) = Contains assumed l × Contains (falses entries) l
NextSays entries assumed Done = AreTrue entries assumed

-- the search ended with a refutation, whose line is such
abbrev pub IsUnsat : Option Outcome → (StepId → Type 0) → Type 0
IsUnsat None P = ⊥
IsUnsat (Some Sat) P = ⊥
IsUnsat (Some (Unsat id)) P = P id
IsUnsat (Some Spent) P = ⊥
IsUnsat (Some Memory) P = ⊥

-- the search ended with a step whose clause is within the negated assumptions
abbrev pub Refutes : SearchView → List Lit → List LogLine → Option Outcome → Type 0
Refutes s assumed log ended = IsUnsat ended (λ id. (clause : List Lit) × StandsInLog s.clauses.axioms log id clause × IsOverNegated assumed clause × IsLastStep log id)

-- After a clause was learned: its literal has no value and is the last one that isn't false, or the trail is quiet.
abbrev pub LearntSays : SearchView → Learnt → Type 0
LearntSays s (Asserting l n) =
    Contains s.trail.attached (More n) × IsLastOpen negated (falses s.trail.entries) (clause_at s.clauses.axioms s.clauses.more (More n)) l
    × (¬ HasValue s.trail.entries l.variable) × Contains s.clauses.own l.variable
LearntSays s Restarted = IsQuiet s.clauses.axioms s.clauses.more s.trail

-- how the search ends, if it does, with a literal that was to be placed
abbrev pub ended_by : Placed → Option Outcome
ended_by placed.Done = None
ended_by placed.Spent = Some Spent
