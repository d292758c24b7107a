use Rattle.pc_ground.specs.ByNumber.{counter_clauses}
use Rattle.pc_ground.proofs.Lists.{range_flat_added}
use Rattle.pc_ground.proofs.counting.push_counters_of.Goals as goal

pub loop-j-preserved : goal.loop-j-preserved
loop-j-preserved c =
    let a = c.args.counted in
    range_flat_added (counter_clauses a.node a.values a.size a.threshold c.args.i) c.loop-j.j c.args.store.now c.loop-j.store _ c.loop-j.invariant c.in_ok-push_counter.ensures
