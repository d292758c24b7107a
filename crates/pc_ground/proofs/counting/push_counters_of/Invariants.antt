use Rattle.std.proofs.Common.{◌≡◌, ◌++◌}
use Rattle.std.specs.List.{flat_map, range_with_len}
use Rattle.pc_ground.specs.ByNumber.{counter_clauses}
use Rattle.pc_ground.proofs.counting.push_counters_of.Given as goal

abbrev pub invariant-loop-j : goal.invariant-loop-j
invariant-loop-j l = l.store ≡ l.fn.store ++ flat_map (counter_clauses l.counted.node l.counted.values l.counted.size l.counted.threshold l.i) (range_with_len 0 l.j)
