use Rattle.std.proofs.Common.{◌≡◌, ◌++◌}
use Rattle.pc_ground.specs.Owners.{times}
use Rattle.pc_ground.proofs.owners.own.Given as goal

abbrev pub invariant-times : goal.invariant-times
invariant-times l = l.owners.items ≡ l.fn.owners.items ++ times l.counter l.span
