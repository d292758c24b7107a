use Rattle.std.proofs.Common.{take, slice_get, IsSomeAnd, Contains}
use Rattle.pc_sortcheck.proofs.tables.stands.Given as goal

abbrev pub invariant-loop-i : goal.invariant-loop-i
invariant-loop-i l = IsSomeAnd (slice_get l.book.universe.tables l.table.0) (λ d. ¬ Contains (take l.i d.rows) l.row)
