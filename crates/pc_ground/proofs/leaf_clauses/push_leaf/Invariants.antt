use Rattle.std.proofs.Common.{◌≡◌, ◌++◌, map, drop}
use Rattle.pc_ground.specs.ByNumber.{not_read}
use Rattle.pc_ground.proofs.leaf_clauses.push_leaf.Given as goal

abbrev pub invariant-loop-read : goal.invariant-loop-read
invariant-loop-read l = l.clause.items ++ map (not_read l.cells) (drop l.read-index l.reads) ≡ map (not_read l.cells) l.reads
