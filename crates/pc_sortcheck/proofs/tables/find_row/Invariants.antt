use Rattle.std.proofs.Common.{◌≡◌, length}
use Rattle.pc_sortcheck.proofs.tables.find_row.Given as goal

abbrev pub invariant-loop : goal.invariant-loop
invariant-loop l = length l.row.items ≡ l.counter
