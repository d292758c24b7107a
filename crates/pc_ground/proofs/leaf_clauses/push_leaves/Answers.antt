use Rattle.pc_ground.proofs.Adding.{leaf_added}
use Rattle.pc_ground.proofs.OfAxioms.{leaf_reads}
use Rattle.pc_ground.proofs.leaf_clauses.push_leaves.Goals as goal

pub push_leaf-requires : goal.push_leaf-requires
push_leaf-requires c = record { reads = leaf_reads c.args.cells.now c.args.leaves.now c.loop-i.i (c.get-is.result.0.now, c.get-is.result.1) c.requires.reads c.get-is.ensures }

pub loop-i-preserved : goal.loop-i-preserved
loop-i-preserved c = leaf_added c.args.cells.now c.args.p c.args.leaves.now c.loop-i.i (c.get-is.result.0.now, c.get-is.result.1) c.args.store.now c.loop-i.store _ c.get-is.ensures c.loop-i.invariant c.in_ok-push_leaf.ensures
