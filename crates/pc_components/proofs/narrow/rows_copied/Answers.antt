use Rattle.std.proofs.Common.{refl}
use Rattle.pc_components.proofs.RowsAdded.{row_copied}
use Rattle.pc_components.proofs.narrow.rows_copied.Goals as goal

pub loop-i-preserved : goal.loop-i-preserved
loop-i-preserved c = row_copied c.args.rows.now c.loop-i.i c.get.result.now c.get.result.now c.loop-i.copy _ c.get.ensures refl c.loop-i.invariant c.in_ok-push.ensures.ok
