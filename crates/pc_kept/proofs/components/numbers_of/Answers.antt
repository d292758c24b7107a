use Rattle.std.proofs.Common.{refl}
use Rattle.pc_components.proofs.RowsAdded.{item_copied}
use Rattle.pc_kept.proofs.components.numbers_of.Goals as goal

pub loop-number-preserved : goal.loop-number-preserved
loop-number-preserved c = item_copied c.args.row.now c.loop-number.number-index _ _ c.loop-number.numbers.items _ c.loop-number-test.true refl c.loop-number.invariant c.in_ok-push.ensures.items
