use Rattle.std.proofs.Common.{ap, map, ◌∙◌, ◌^◌}
use Rattle.pc_components.specs.View.{number_of}
use Rattle.pc_components.proofs.RowsAdded.{row_named}
use Rattle.pc_components.proofs.TraversalRight.{row_below}
use Rattle.pc_components.proofs.narrow.rows_of_cells.Goals as goal

pub loop-i-preserved : goal.loop-i-preserved
loop-i-preserved c = row_named number_of c.args.rows.now c.loop-i.i c.get.result.now c.deref.result.now c.loop-i.cells _ c.get.ensures (ap (map number_of) c.deref.ensures.value ∙ c.in_ok-row.ensures) c.loop-i.invariant c.in_ok-push.ensures.ok

pub cells_of-requires : goal.cells_of-requires
cells_of-requires c = row_below (2 ^ 16) c.args.rows.now c.requires c.loop-i.i c.get.result.now c.get.ensures
