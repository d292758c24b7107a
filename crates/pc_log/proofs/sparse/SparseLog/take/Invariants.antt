use Rattle.std.proofs.Common.{◌≤◌, length}
use Rattle.pc_log.specs.Sparse.{line_at, AddsOnly}
use Rattle.pc_log.proofs.SparseLemmas.{Taken}
use Rattle.pc_log.proofs.sparse.SparseLog.take.Given as goal

abbrev pub invariant-loop-place : goal.invariant-loop-place
invariant-loop-place l = Taken (line_at l.log) l.places l.place-index l.fn.self l.self × (length l.log ≤ length l.self) × AddsOnly (line_at l.log) l.places l.fn.self l.self
