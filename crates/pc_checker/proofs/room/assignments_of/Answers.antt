use Rattle.pc_checker.proofs.BlockLemmas.{values_more}
use Rattle.pc_checker.proofs.room.assignments_of.Goals as goal

pub loop-set-preserved : goal.loop-set-preserved
loop-set-preserved c =
    values_more c.args.sets.now c.loop-set.set-index c.set-item.result c.deref.result.now c.in_ok-values.values c.loop-set.assigned.items c.push.new.self.items c.loop-set-test.true c.set-item.is c.loop-set.invariant
    c.in_ok-push.ensures.items c.in_ok-values.ensures c.deref.ensures.value
