use Rattle.std.proofs.Common.{◌≡◌, ◌++◌, take}
use Rattle.pc_ground.proofs.push.append_clauses.Given as goal

abbrev pub invariant-loop-number : goal.invariant-loop-number
invariant-loop-number l = l.store ≡ l.fn.store ++ take l.number l.more
