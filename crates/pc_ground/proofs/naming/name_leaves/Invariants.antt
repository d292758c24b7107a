use Rattle.std.proofs.Common.{◌≡◌, [], map, take}
use Rattle.pc_ground.specs.Naming.{named, leaf_name}
use Rattle.pc_ground.proofs.naming.name_leaves.Given as goal

abbrev pub invariant-loop-i : goal.invariant-loop-i
invariant-loop-i l = l.names ≡ named l.fn.names [] (map (leaf_name l.path.rule l.path.steps.items) (take l.i l.leaves))
