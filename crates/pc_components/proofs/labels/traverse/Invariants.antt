use Rattle.std.proofs.Common.{◌≡◌, []}
use Rattle.pc_components.specs.Traversal.{IsTraversal, Nothing}
use Rattle.pc_components.proofs.labels.traverse.Given as goal

abbrev pub invariant-starts : goal.invariant-starts
invariant-starts l = record {
  search : IsTraversal l.rows l.count l.first 0 Nothing l.search;
  all : l.search.frontier ≡ [];
}
