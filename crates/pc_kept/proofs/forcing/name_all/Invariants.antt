use Rattle.std.proofs.Common.{◌≡◌, ◌<◌, ℕ, List, length, Contains, slice_get, Some}
use Rattle.pc_lits.specs.declared.literal.Lit.{Lit}
use Rattle.pc_kept.specs.inside.Checks.{IsNamed}
use Rattle.pc_kept.proofs.forcing.name_all.Given as goal

abbrev pub invariant-loop-i : goal.invariant-loop-i
invariant-loop-i l = record {
  each : (j k : ℕ) → j < l.i → slice_get l.kept j ≡ Some k → (clause : List Lit) → slice_get l.store k ≡ Some clause → (m : Lit) → Contains clause m → IsNamed l.named m.variable.0;
  room : length l.named ≡ length l.fn.named;
}
