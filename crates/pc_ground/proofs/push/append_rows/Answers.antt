use Rattle.pc_ground.proofs.Pushed.{appended}
use Rattle.pc_ground.proofs.push.append_rows.Goals as goal

pub loop-number-preserved : goal.loop-number-preserved
loop-number-preserved c = appended c.args.rows.now c.args.more.now c.loop-number.number c.get.result.now c.loop-number.rows _ c.get.ensures c.loop-number.invariant c.in_ok-push.ensures.ok
