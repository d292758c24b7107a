use Rattle.pc_parts.specs.Leaves.{cells_of_leaf}
use Rattle.pc_ground.proofs.CellsAdded.{leaf_added}
use Rattle.pc_ground.proofs.reads.add_leaves.Goals as goal

pub loop-i-preserved : goal.loop-i-preserved
loop-i-preserved c = leaf_added cells_of_leaf c.args.leaves.now c.loop-i.i (c.get.result.0.now, c.get.result.1) c.args.cells.now.items c.loop-i.cells.items _ c.get.ensures c.loop-i.invariant c.in_ok-add_reads.ensures
