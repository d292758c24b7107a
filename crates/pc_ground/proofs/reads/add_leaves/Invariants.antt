use Rattle.std.proofs.Common.{◌≡◌, ◌++◌, take}
use Rattle.std.specs.List.{flat_map}
use Rattle.pc_parts.specs.Leaves.{cells_of_leaf}
use Rattle.pc_ground.proofs.reads.add_leaves.Given as goal

abbrev pub invariant-loop-i : goal.invariant-loop-i
invariant-loop-i l = l.cells.items ≡ l.fn.cells.items ++ flat_map cells_of_leaf (take l.i l.leaves)
