use Rattle.std.proofs.Common.{◌≡◌, ◌<◌, ℕ, length, get_or}
use Rattle.pc_lits.specs.declared.literal.Lit.{Lit}
use Rattle.pc_lits.proofs.LitLemmas.{past_lit}
use Rattle.pc_kept.specs.Stored.{IsOwnStored}
use Rattle.pc_kept.specs.inside.Signs.{IsSigned}
use Rattle.pc_kept.proofs.polarity.Polarity.name_clause.Given as goal

abbrev pub invariant-loop-i : goal.invariant-loop-i
invariant-loop-i l = record {
  each : (j : ℕ) → j < l.i → j < length l.clause → (¬ IsOwnStored l.names l.number (get_or l.clause j past_lit).variable.0) → IsSigned l.self.yes l.self.no (get_or l.clause j past_lit);
  kept : (m : Lit) → IsSigned l.fn.self.yes l.fn.self.no m → IsSigned l.self.yes l.self.no m;
  yes : length l.self.yes ≡ length l.fn.self.yes;
  no : length l.self.no ≡ length l.fn.self.no;
  banned : l.self.banned ≡ l.fn.self.banned;
}
