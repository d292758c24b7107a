use Rattle.std.proofs.Common.{◌+◌, length}
use Rattle.pc_components.specs.Traversal.{IsTraversal, Nothing, open_count}
use Rattle.pc_components.proofs.labels.Traversal.go_on.Given as goal

abbrev pub invariant-cells : goal.invariant-cells
invariant-cells l = IsTraversal l.rows l.count (l.label + 1) l.label Nothing l.self

abbrev pub decreases-cells : goal.decreases-cells
decreases-cells l = open_count (length l.self.labels) l.self.labels + length l.self.frontier
