use Rattle.std.proofs.Common.{◌^◌}
use Rattle.pc_components.proofs.TraversalRight.{below_item}
use Rattle.pc_components.proofs.RowsAdded.{item_copied}
use Rattle.pc_components.proofs.narrow.axioms_of.Goals as goal

pub axiom_of-requires : goal.axiom_of-requires
axiom_of-requires c = below_item (2 ^ 32) c.args.row.now c.loop-number.number-index _ c.requires c.loop-number-test.true

pub loop-number-preserved : goal.loop-number-preserved
loop-number-preserved c = item_copied c.args.row.now c.loop-number.number-index _ c.axiom_of.result c.loop-number.axioms.items _ c.loop-number-test.true c.axiom_of.ensures c.loop-number.invariant c.in_ok-push.ensures.items
