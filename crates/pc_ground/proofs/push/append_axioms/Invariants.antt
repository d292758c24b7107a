use Rattle.std.proofs.Common.{◌≡◌, take, []}
use Rattle.pc_ground.specs.Naming.{named}
use Rattle.pc_ground.proofs.push.append_axioms.Given as goal

abbrev pub invariant-loop-number : goal.invariant-loop-number
invariant-loop-number l = l.names ≡ named l.fn.names [] (take l.number l.more.axioms)
