use Rattle.std.proofs.Common.{◌≡◌, ◌++◌, map, take}
use Rattle.pc_ground.specs.ByNumber.{leaf_by_number}
use Rattle.pc_ground.proofs.leaf_clauses.push_leaves.Given as goal

abbrev pub invariant-loop-i : goal.invariant-loop-i
invariant-loop-i l = l.store ≡ l.fn.store ++ map (leaf_by_number l.cells l.p) (take l.i l.leaves)
