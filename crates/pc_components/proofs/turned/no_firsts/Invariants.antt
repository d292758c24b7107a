use Rattle.std.proofs.Common.{◌≡◌, replicate}
use Rattle.pc_components.proofs.turned.no_firsts.Given as goal

abbrev pub invariant-loop : goal.invariant-loop
invariant-loop l = l.firsts.items ≡ replicate l.counter 0
