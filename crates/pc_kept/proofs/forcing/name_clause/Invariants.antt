use Rattle.std.proofs.Common.{◌≡◌, ◌<◌, ℕ, length, get_or}
use Rattle.pc_lits.proofs.LitLemmas.{past_lit}
use Rattle.pc_kept.specs.inside.Checks.{IsNamed}
use Rattle.pc_kept.proofs.forcing.name_clause.Given as goal

abbrev pub invariant-loop-i : goal.invariant-loop-i
invariant-loop-i l = record {
  each : (j : ℕ) → j < l.i → j < length l.clause → IsNamed l.named (get_or l.clause j past_lit).variable.0;
  kept : (x : ℕ) → IsNamed l.fn.named x → IsNamed l.named x;
  room : length l.named ≡ length l.fn.named;
}
