use Rattle.pc_repairs.proofs.Ranges.{numbers_more}
use Rattle.pc_repairs.proofs.task.axioms_below.Goals as goal

pub loop-number-preserved : goal.loop-number-preserved
loop-number-preserved c = numbers_more c.loop-number.axioms.items _ c.loop-number.number c.in_ok-push.ensures.items c.loop-number.invariant
