use Rattle.std.proofs.Common.{◌≡◌, ◌++◌, drop}
use Rattle.pc_kept.proofs.components.numbers_of.Given as goal

abbrev pub invariant-loop-number : goal.invariant-loop-number
invariant-loop-number l = l.numbers.items ++ drop l.number-index l.row ≡ l.row
