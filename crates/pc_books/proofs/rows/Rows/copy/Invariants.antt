use Rattle.std.proofs.Common.{◌≡◌, map, take}
use Rattle.pc_books.specs.RowView.{row_of}
use Rattle.pc_books.proofs.rows.Rows.copy.Given as goal

abbrev pub invariant-loop-row : goal.invariant-loop-row
invariant-loop-row l = l.copy ≡ map row_of (take l.row-index l.row-items)
