use Rattle.pc_ground.proofs.Pushed.{appended}
use Rattle.pc_ground.proofs.push.append_clauses.Goals as goal

pub loop-number-preserved : goal.loop-number-preserved
loop-number-preserved c = appended c.args.store.now c.args.more.now c.loop-number.number c.get.result.now c.loop-number.store _ c.get.ensures c.loop-number.invariant c.in_ok-push.ensures.ok
