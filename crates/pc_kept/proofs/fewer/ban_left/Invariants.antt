use Rattle.std.proofs.Common.{◌≡◌, length}
use Rattle.pc_lits.specs.declared.literal.Lit.{Lit}
use Rattle.pc_lits.specs.Values.{MakesTrue}
use Rattle.pc_kept.proofs.fewer.ban_left.Given as goal

abbrev pub invariant-loop-i : goal.invariant-loop-i
invariant-loop-i l = record {
  yes : l.polarity.yes ≡ l.fn.polarity.yes;
  no : l.polarity.no ≡ l.fn.polarity.no;
  more : (m : Lit) → MakesTrue l.fn.polarity.banned m → MakesTrue l.polarity.banned m;
  banned : length l.polarity.banned ≡ length l.fn.polarity.banned;
}
