use Rattle.std.proofs.Common.{◌≡◌, map}
use Rattle.std.specs.List.{range_with_len}
use Rattle.pc_theory.specs.WholeSpendings.{variable_of}
use Rattle.pc_repairs.proofs.task.variables_below.Given as goal

abbrev pub invariant-loop-number : goal.invariant-loop-number
invariant-loop-number l = l.variables.items ≡ map variable_of (range_with_len 0 l.number)
