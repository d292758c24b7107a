use Rattle.std.proofs.Common.{◌-◌}
use Rattle.pc_solver.specs.inside.Search.{Advances, IsUnderWay}
use Rattle.pc_solver.proofs.search.Search.turns.Given as goal

abbrev pub invariant-turns : goal.invariant-turns
invariant-turns l = record {
  advances : Advances l.initial.self l.self l.initial.tally l.tally l.initial.log l.log 0 0;
  under_way : IsUnderWay l.self l.assumed l.log;
}

abbrev pub decreases-turns : goal.decreases-turns
decreases-turns l = l.tally.limit - l.tally.placed
