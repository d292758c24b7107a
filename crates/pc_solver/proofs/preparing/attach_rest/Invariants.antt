use Rattle.std.proofs.Common.{◌≡◌, ◌-◌, length}
use Rattle.pc_solver.specs.Clauses.{KeepsProblem}
use Rattle.pc_solver.specs.inside.Search.{IsSearch, HasNoDecision, KeepsLogs}
use Rattle.pc_solver.proofs.preparing.attach_rest.Given as goal

abbrev pub invariant-rest : goal.invariant-rest
invariant-rest l = record {
  is : IsSearch l.clauses l.trail;
  level : HasNoDecision l.trail.entries;
  variables : l.trail.variables ≡ l.initial.trail.variables;
  problem : KeepsProblem l.initial.clauses l.clauses;
  logs : KeepsLogs l.initial.clauses l.clauses;
}

abbrev pub decreases-rest : goal.decreases-rest
decreases-rest l = length l.clauses.more - l.clauses.known
