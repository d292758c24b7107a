use Rattle.std.proofs.Common.{◌≤◌, length}
use Rattle.pc_log.specs.Sparse.{line_in, AddsOnly, Keeps}
use Rattle.pc_log.proofs.SparseLemmas.{Taken}
use Rattle.pc_log.proofs.sparse.SparseLog.take_back.Given as goal

abbrev pub invariant-loop-place : goal.invariant-loop-place
invariant-loop-place l = Taken (line_in l.from) l.places l.place-index l.fn.self l.self × Keeps l.self l.from × (length l.from ≤ length l.self) × AddsOnly (line_in l.from) l.places l.fn.self l.self
