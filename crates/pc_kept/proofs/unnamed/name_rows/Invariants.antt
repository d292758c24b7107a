use Rattle.std.proofs.Common.{◌≡◌, ◌<◌, ℕ, List, length, Some, slice_get}
use Rattle.pc_lits.specs.declared.literal.Lit.{Lit}
use Rattle.pc_kept.specs.Stored.{IsNamedStored}
use Rattle.pc_kept.specs.inside.Signs.{IsSigned}
use Rattle.pc_kept.proofs.unnamed.name_rows.Given as goal

abbrev pub invariant-loop-i : goal.invariant-loop-i
invariant-loop-i l = record {
  each : (j : ℕ) (kept : List ℕ) (m : Lit) → j < l.i → slice_get l.rows j ≡ Some kept → IsNamedStored l.stored.store.now l.stored.names.now kept m → IsSigned l.polarity.yes l.polarity.no m;
  yes : length l.polarity.yes ≡ length l.fn.polarity.yes;
  no : length l.polarity.no ≡ length l.fn.polarity.no;
  banned : l.polarity.banned ≡ l.fn.polarity.banned;
}
