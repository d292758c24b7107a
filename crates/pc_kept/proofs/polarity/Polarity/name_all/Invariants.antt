use Rattle.std.proofs.Common.{◌≡◌, ◌<◌, ℕ, List, length, Contains, Some, slice_get}
use Rattle.pc_lits.specs.declared.literal.Lit.{Lit}
use Rattle.pc_kept.specs.Stored.{IsOwnStored}
use Rattle.pc_kept.specs.inside.Signs.{IsSigned}
use Rattle.pc_kept.proofs.polarity.Polarity.name_all.Given as goal

abbrev pub invariant-loop-i : goal.invariant-loop-i
invariant-loop-i l = record {
  each : (j k : ℕ) → j < l.i → slice_get l.kept j ≡ Some k → (clause : List Lit) (m : Lit) → slice_get l.stored.store.now k ≡ Some clause → Contains clause m → (¬ IsOwnStored l.stored.names.now k m.variable.0) → IsSigned l.self.yes l.self.no m;
  kept : (m : Lit) → IsSigned l.fn.self.yes l.fn.self.no m → IsSigned l.self.yes l.self.no m;
  yes : length l.self.yes ≡ length l.fn.self.yes;
  no : length l.self.no ≡ length l.fn.self.no;
  banned : l.self.banned ≡ l.fn.self.banned;
}
