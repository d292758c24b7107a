use Rattle.pc_components.proofs.TraversalRight.{row_more, below_drop}
use Rattle.std.proofs.Common.{length}
use Rattle.pc_components.proofs.labels.Traversal.visit_all.Goals as goal

pub loop-place-preserved : goal.loop-place-preserved
loop-place-preserved c = record {
  visited = row_more c.args.label c.args.rows.now c.args.places.now c.loop-place.place-index _ c.get.result.now c.loop-place.self c.visit.new.self _ c.loop-place-test.true c.get.ensures c.in_ok-visit.ensures c.loop-place.invariant.visited;
  below = below_drop (length c.args.rows.now) c.args.places.now c.loop-place.place-index c.loop-place.invariant.below;
}
