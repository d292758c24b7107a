use Rattle.std.proofs.Common.{◌∙◌, ◌^◌}
use Rattle.pc_components.proofs.RowsAdded.{row_copied}
use Rattle.pc_components.proofs.TraversalRight.{row_below}
use Rattle.pc_components.proofs.narrow.rows_of_axioms.Goals as goal

pub loop-i-preserved : goal.loop-i-preserved
loop-i-preserved c = row_copied c.args.rows.now c.loop-i.i c.get.result.now c.deref.result.now c.loop-i.axioms _ c.get.ensures (c.deref.ensures.value ∙ c.in_ok-row.ensures) c.loop-i.invariant c.in_ok-push.ensures.ok

pub axioms_of-requires : goal.axioms_of-requires
axioms_of-requires c = row_below (2 ^ 32) c.args.rows.now c.requires c.loop-i.i c.get.result.now c.get.ensures
