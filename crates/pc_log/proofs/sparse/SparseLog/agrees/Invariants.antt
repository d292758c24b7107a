use Rattle.std.proofs.Common.{take}
use Rattle.pc_log.specs.Sparse.{line_at, MayStand}
use Rattle.pc_log.proofs.sparse.SparseLog.agrees.Given as goal

abbrev pub invariant-loop-place : goal.invariant-loop-place
invariant-loop-place l = MayStand (line_at l.log) (take l.place-index l.places) l.self
