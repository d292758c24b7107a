use Rattle.std.proofs.Common.{◌≡◌, length}
use Rattle.pc_elaborate.proofs.CellWalk.{ValuesSoFar}
use Rattle.pc_elaborate.proofs.cells.find_values.Given as goal

abbrev pub invariant-loop-i : goal.invariant-loop-i
invariant-loop-i l = ValuesSoFar l.book.universe l.sorts l.values l.i l.into × (length l.into ≡ length l.sorts)
