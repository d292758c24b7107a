use Rattle.std.proofs.Common.{◌≤◌}
use Rattle.pc_kept.proofs.leaving.count.Given as goal

abbrev pub invariant-loop-stay : goal.invariant-loop-stay
invariant-loop-stay l = l.count ≤ l.stay-index
