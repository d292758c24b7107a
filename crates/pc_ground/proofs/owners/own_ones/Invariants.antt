use Rattle.std.proofs.Common.{◌≡◌, ◌-◌, ◌++◌}
use Rattle.pc_ground.specs.Owners.{ones}
use Rattle.pc_ground.proofs.owners.own_ones.Given as goal

abbrev pub invariant-loop-v : goal.invariant-loop-v
invariant-loop-v l = l.owners.items ++ ones (l.size - l.v) l.span ≡ l.fn.owners.items ++ ones l.size l.span
