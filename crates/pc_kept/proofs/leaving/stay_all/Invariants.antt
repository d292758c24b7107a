use Rattle.std.proofs.Common.{◌≡◌, length}
use Rattle.pc_kept.proofs.leaving.stay_all.Given as goal

abbrev pub invariant-rounds : goal.invariant-rounds
invariant-rounds l = record {
  left : length l.left ≡ length l.fn.left;
  yes : length l.polarity.yes ≡ length l.fn.polarity.yes;
  no : length l.polarity.no ≡ length l.fn.polarity.no;
  banned : l.polarity.banned ≡ l.fn.polarity.banned;
  stays : length l.stays.items ≡ length l.fn.stays.items;
}
