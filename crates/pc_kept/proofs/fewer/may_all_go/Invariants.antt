use Rattle.std.proofs.Common.{◌≡◌, ◌<◌, ◌⊎◌, ℕ, Some, slice_get, true}
use Rattle.pc_kept.specs.inside.Signs.{MayGo}
use Rattle.pc_kept.proofs.fewer.may_all_go.Given as goal

abbrev pub invariant-loop-i : goal.invariant-loop-i
invariant-loop-i l =
    (j k : ℕ) → j < l.i → slice_get l.used j ≡ Some k
    → (slice_get l.marks j ≡ Some true) ⊎ MayGo l.stored.pairs l.stored.store.now l.stored.names.now l.trial.values l.constants l.trial.named l.polarity.banned k
