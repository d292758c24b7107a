use Rattle.std.proofs.Common.{◌+◌, ◌<◌, ◌≤◌, length}
use Rattle.pc_log.specs.Sparse.{index_of}
use Rattle.pc_log.proofs.places.number_in.Given as goal

abbrev pub invariant-loop-size : goal.invariant-loop-size
invariant-loop-size l = record {
  from : l.base ≤ index_of l.place l.list;
  to : index_of l.place l.list < l.base + l.size;
  within : l.base + l.size ≤ length l.list;
}

abbrev pub decreases-loop-size : goal.decreases-loop-size
decreases-loop-size l = l.size
