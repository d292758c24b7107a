use Rattle.pc_ground.specs.Naming.{leaf_name}
use Rattle.pc_ground.proofs.NamesAdded.{leaf_named}
use Rattle.pc_ground.proofs.naming.name_leaves.Goals as goal

pub loop-i-preserved : goal.loop-i-preserved
loop-i-preserved c =
    leaf_named (leaf_name c.args.path.now.rule c.args.path.now.steps.items) c.args.leaves.now c.loop-i.i (c.get-is.result.0.now, c.get-is.result.1) c.args.names.now c.loop-i.names _ c.get-is.ensures c.loop-i.invariant c.in_ok-name_leaf.ensures
