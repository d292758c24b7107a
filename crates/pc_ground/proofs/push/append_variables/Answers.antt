use Rattle.pc_ground.proofs.Pushed.{variable_appended}
use Rattle.pc_ground.proofs.push.append_variables.Goals as goal

pub loop-number-preserved : goal.loop-number-preserved
loop-number-preserved c = variable_appended c.args.names.now c.args.more.now.variables c.loop-number.number _ c.loop-number.names _ c.variable.ensures c.loop-number.invariant c.in_ok-add_variable.ensures.ok
