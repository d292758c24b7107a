use Rattle.pc_repairs.proofs.Ranges.{variables_more}
use Rattle.pc_repairs.proofs.task.variables_below.Goals as goal

pub loop-number-preserved : goal.loop-number-preserved
loop-number-preserved c = variables_more c.loop-number.variables.items _ c.loop-number.number c.in_ok-push.ensures.items c.loop-number.invariant
