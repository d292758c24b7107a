use Rattle.std.proofs.Common.{◌≡◌, length}
use Rattle.pc_kept.proofs.guessing.force_twice.Given as goal

abbrev pub invariant-loop-i : goal.invariant-loop-i
invariant-loop-i l = length l.values ≡ length l.fn.values

abbrev pub invariant-loop-place : goal.invariant-loop-place
invariant-loop-place l = length l.values ≡ length l.fn.values
