use Rattle.std.proofs.Common.{◌<◌, ◌≤◌, ℕ, length, get_or}
use Rattle.pc_lits.proofs.LitLemmas.{past_lit}
use Rattle.pc_kept.specs.inside.Checks.{IsNamed}
use Rattle.pc_kept.proofs.checking.none_is_named.Given as goal

abbrev pub invariant-loop-i : goal.invariant-loop-i
invariant-loop-i l = (j : ℕ) → j < l.i → j < length l.clause → l.pairs ≤ (get_or l.clause j past_lit).variable.0 → ¬ IsNamed l.named (get_or l.clause j past_lit).variable.0
