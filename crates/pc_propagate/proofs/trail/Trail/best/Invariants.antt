use Rattle.std.proofs.Common.{◌<◌, ◌≤◌, length}
use Rattle.pc_propagate.proofs.trail.Trail.best.Given as goal

abbrev pub invariant-loop-place : goal.invariant-loop-place
invariant-loop-place l = 2 ≤ length l.lits → l.best < length l.lits
