use Rattle.std.proofs.Common.{◌≡◌, length}
use Rattle.pc_kept.proofs.guessing.name_each.Given as goal

abbrev pub invariant-loop-i : goal.invariant-loop-i
invariant-loop-i l = record { room : length l.named ≡ length l.fn.named; marks : length l.marks.items ≡ length l.fn.marks.items }
