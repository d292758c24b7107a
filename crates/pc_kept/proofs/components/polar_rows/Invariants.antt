use Rattle.std.proofs.Common.{◌≡◌, ◌<◌, ℕ, List, [], Some, get_or, length, slice_get}
use Rattle.pc_kept.specs.Stored.{AreKeptStored}
use Rattle.pc_kept.proofs.components.polar_rows.Given as goal

abbrev pub invariant-loop-i : goal.invariant-loop-i
invariant-loop-i l = record {
  count : length l.rows ≡ l.i;
  each : (j : ℕ) (used : List ℕ) → j < l.i → slice_get l.whole.axioms j ≡ Some used → AreKeptStored l.stored.pairs l.stored.store.now l.stored.names.now l.polarity.banned used (get_or l.rows j []);
  values : length l.trial.values ≡ length l.fn.trial.values;
  constants : length l.constants ≡ length l.fn.constants;
  named : length l.trial.named ≡ length l.fn.trial.named;
  yes : length l.polarity.yes ≡ length l.fn.polarity.yes;
  no : length l.polarity.no ≡ length l.fn.polarity.no;
  banned : length l.polarity.banned ≡ length l.fn.polarity.banned;
}
