use Rattle.std.proofs.Common.{◌≡◌, ◌++◌, take}
use Rattle.pc_ground.proofs.push.append_rows.Given as goal

abbrev pub invariant-loop-number : goal.invariant-loop-number
invariant-loop-number l = l.rows ≡ l.fn.rows ++ take l.number l.more
