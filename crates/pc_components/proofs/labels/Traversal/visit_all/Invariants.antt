use Rattle.std.proofs.Common.{◌≡◌, drop, length}
use Rattle.pc_components.specs.Traversal.{rows_visited}
use Rattle.pc_components.specs.inside.Within.{AreBelow}
use Rattle.pc_components.proofs.labels.Traversal.visit_all.Given as goal

abbrev pub invariant-loop-place : goal.invariant-loop-place
invariant-loop-place l = record {
  visited : rows_visited l.label l.rows (drop l.place-index l.places) l.self ≡ rows_visited l.label l.rows l.places l.fn.self;
  below : AreBelow (length l.rows) (drop l.place-index l.places);
}
