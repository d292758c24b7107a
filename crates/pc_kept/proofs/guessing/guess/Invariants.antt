use Rattle.std.proofs.Common.{◌≡◌, length}
use Rattle.pc_kept.proofs.guessing.guess.Given as goal

abbrev pub invariant-loop-place : goal.invariant-loop-place
invariant-loop-place l = record { values : length l.trial.values ≡ length l.fn.trial.values; named : length l.trial.named ≡ length l.fn.trial.named; marks : length l.marks.items ≡ length l.fn.marks.items }
