use Rattle.std.proofs.Common.{◌≡◌, ◌+◌, ◌*◌, ◌^◌, ◌≤◌, ◌↔◌, map, drop, length}
use Rattle.pc_sheet.specs.Entailment.{AreWithin}
use Rattle.pc_sheet.specs.Sizes.{size_of, rank_from}
use Rattle.pc_books.specs.SchemeView.{universe_of}
use Rattle.pc_books.proofs.scheme.rank_of.Given as goal

abbrev pub invariant-loop-i : goal.invariant-loop-i
invariant-loop-i l =
    let size = size_of (universe_of l.scheme) in
    record {
      rank : rank_from l.rank (map size (drop l.i l.sorts)) (drop l.i l.args) ≡ rank_from 0 (map size l.sorts) l.args;
      fits : AreWithin (map size (drop l.i l.sorts)) (drop l.i l.args) ↔ AreWithin (map size l.sorts) l.args;
      small : l.rank + 257 ≤ 257 * 256 ^ l.i;
      same : length l.args ≡ length l.sorts;
    }
