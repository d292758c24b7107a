use Rattle.std.proofs.Common.{◌≡◌, length}
use Rattle.pc_kept.proofs.keeping.kept_axioms.Given as goal

abbrev pub invariant-trials : goal.invariant-trials
invariant-trials l = record { values : length l.trial.values ≡ length l.fn.trial.values; named : length l.trial.named ≡ length l.fn.trial.named; marks : length l.marks.items ≡ length l.used }
