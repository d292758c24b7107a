use Rattle.std.proofs.Common.{◌≡◌, ◌++◌, drop}
use Rattle.pc_components.proofs.narrow.rows_copied.Given as goal

abbrev pub invariant-loop-i : goal.invariant-loop-i
invariant-loop-i l = l.copy ++ drop l.i l.rows ≡ l.rows
