use Rattle.std.proofs.Common.{ap, map, ◌∙◌, ◌^◌}
use Rattle.pc_components.specs.View.{variable_number}
use Rattle.pc_components.proofs.RowsAdded.{row_named}
use Rattle.pc_components.proofs.TraversalRight.{row_below}
use Rattle.pc_components.proofs.narrow.rows_of_variables.Goals as goal

pub loop-i-preserved : goal.loop-i-preserved
loop-i-preserved c = row_named variable_number c.args.rows.now c.loop-i.i c.get.result.now c.deref.result.now c.loop-i.variables _ c.get.ensures (ap (map variable_number) c.deref.ensures.value ∙ c.in_ok-row.ensures) c.loop-i.invariant c.in_ok-push.ensures.ok

pub variables_of-requires : goal.variables_of-requires
variables_of-requires c = row_below (2 ^ 32) c.args.rows.now c.requires c.loop-i.i c.get.result.now c.get.ensures
