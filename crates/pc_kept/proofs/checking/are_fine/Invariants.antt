use Rattle.std.proofs.Common.{◌≡◌, ◌<◌, ◌⊎◌, ℕ, Some, slice_get, true}
use Rattle.pc_kept.specs.inside.Checks.{IsFine}
use Rattle.pc_kept.proofs.checking.are_fine.Given as goal

abbrev pub invariant-loop-i : goal.invariant-loop-i
invariant-loop-i l = (j k : ℕ) → j < l.i → slice_get l.used j ≡ Some k → (slice_get l.marks j ≡ Some true) ⊎ IsFine l.stored.pairs l.stored.store.now l.stored.names.now.axioms l.trial.values l.constants l.trial.named k
