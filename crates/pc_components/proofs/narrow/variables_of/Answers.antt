use Rattle.std.proofs.Common.{◌^◌}
use Rattle.pc_components.specs.View.{variable_number}
use Rattle.pc_components.proofs.TraversalRight.{below_item}
use Rattle.pc_components.proofs.RowsAdded.{item_named}
use Rattle.pc_components.proofs.narrow.variables_of.Goals as goal

pub variable_of-requires : goal.variable_of-requires
variable_of-requires c = below_item (2 ^ 32) c.args.row.now c.loop-number.number-index _ c.requires c.loop-number-test.true

pub loop-number-preserved : goal.loop-number-preserved
loop-number-preserved c = item_named variable_number c.args.row.now c.loop-number.number-index _ c.variable_of.result c.loop-number.variables.items _ c.loop-number-test.true c.variable_of.ensures c.loop-number.invariant c.in_ok-push.ensures.items
