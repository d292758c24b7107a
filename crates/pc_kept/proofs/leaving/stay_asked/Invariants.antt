use Rattle.std.proofs.Common.{◌≡◌, length}
use Rattle.pc_kept.proofs.leaving.stay_asked.Given as goal

abbrev pub invariant-loop-place : goal.invariant-loop-place
invariant-loop-place l = record {
  yes : length l.polarity.yes ≡ length l.fn.polarity.yes;
  no : length l.polarity.no ≡ length l.fn.polarity.no;
  banned : l.polarity.banned ≡ l.fn.polarity.banned;
  stays : length l.stays.items ≡ length l.fn.stays.items;
}
