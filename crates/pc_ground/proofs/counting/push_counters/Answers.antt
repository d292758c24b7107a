use Rattle.std.specs.List.{flat_map, range_with_len}
use Rattle.pc_ground.specs.ByNumber.{counter_clauses}
use Rattle.pc_ground.proofs.Lists.{range_flat_added}
use Rattle.pc_ground.proofs.counting.push_counters.Goals as goal

pub loop-i-preserved : goal.loop-i-preserved
loop-i-preserved c =
    let a = c.args.counted in
    range_flat_added (λ i. flat_map (counter_clauses a.node a.values a.size a.threshold i) (range_with_len 0 a.threshold)) c.loop-i.i c.args.store.now c.loop-i.store _ c.loop-i.invariant c.in_ok-push_counters_of.ensures
