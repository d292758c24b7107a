use Rattle.std.proofs.Common.{◌≡◌, take, sum_by}
use Rattle.pc_sheet.specs.WellFormed.{rows_in}
use Rattle.pc_sortcheck.proofs.tables.count_rows.Given as goal

abbrev pub invariant-loop-i : goal.invariant-loop-i
invariant-loop-i l = l.rows ≡ sum_by rows_in (take l.i l.book.universe.tables)
