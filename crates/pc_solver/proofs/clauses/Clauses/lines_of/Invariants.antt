use Rattle.std.proofs.Common.{◌≡◌, ◌<◌, take, length, All}
use Rattle.pc_log.specs.Derivations.{hinted_clauses}
use Rattle.pc_propagate.specs.Refs.{clauses_of_refs}
use Rattle.pc_solver.specs.Clauses.{KeepsClauses}
use Rattle.pc_solver.specs.InLog.{IsLogOf, LogGrows}
use Rattle.pc_solver.proofs.clauses.Clauses.lines_of.Given as goal

abbrev pub invariant-loop-reference : goal.invariant-loop-reference
invariant-loop-reference l = record {
  log : IsLogOf l.self l.log;
  same : KeepsClauses l.initial.self l.self;
  grows : LogGrows l.initial.log l.log 0 0;
  within : All (λ h. h.0 < length l.log) l.lines.items;
  are : hinted_clauses l.initial.self.axioms l.log l.lines.items ≡ clauses_of_refs l.initial.self.axioms l.initial.self.more (take l.reference-index l.references);
}
