use Rattle.std.proofs.Common.{◌≡◌, length}
use Rattle.pc_kept.proofs.checking.mark_missing.Given as goal

abbrev pub invariant-loop-i : goal.invariant-loop-i
invariant-loop-i l = length l.marks.items ≡ length l.fn.marks.items
