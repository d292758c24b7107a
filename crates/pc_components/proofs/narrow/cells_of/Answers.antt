use Rattle.std.proofs.Common.{◌^◌}
use Rattle.pc_components.specs.View.{number_of}
use Rattle.pc_components.proofs.TraversalRight.{below_item}
use Rattle.pc_components.proofs.RowsAdded.{item_named}
use Rattle.pc_components.proofs.narrow.cells_of.Goals as goal

pub cell_of-requires : goal.cell_of-requires
cell_of-requires c = below_item (2 ^ 16) c.args.row.now c.loop-number.number-index _ c.requires c.loop-number-test.true

pub loop-number-preserved : goal.loop-number-preserved
loop-number-preserved c = item_named number_of c.args.row.now c.loop-number.number-index _ c.cell_of.result c.loop-number.cells.items _ c.loop-number-test.true c.cell_of.ensures c.loop-number.invariant c.in_ok-push.ensures.items
