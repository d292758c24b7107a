use Rattle.std.proofs.Common.{◌≡◌, ◌*◌, ◌^◌, ◌≤◌, map, drop}
use Rattle.pc_sheet.specs.Sizes.{size_of, product}
use Rattle.pc_books.specs.SchemeView.{universe_of}
use Rattle.pc_books.proofs.scheme.count_tuples.Given as goal

abbrev pub invariant-loop-sort : goal.invariant-loop-sort
invariant-loop-sort l =
    let size = size_of (universe_of l.scheme) in
    record {
      exact : l.tuples * product (map size (drop l.sort-index l.sorts)) ≡ product (map size l.sorts);
      small : l.tuples ≤ 256 ^ l.sort-index;
    }
