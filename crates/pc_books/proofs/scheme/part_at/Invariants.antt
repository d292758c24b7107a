use Rattle.std.proofs.Common.{◌≡◌, ◌-◌, ◌<◌, drop, map, slice_get}
use Rattle.pc_sheet.specs.Sizes.{product, size_of}
use Rattle.pc_books.specs.SchemeView.{universe_of}
use Rattle.pc_books.specs.Tuples.{tuple_at}
use Rattle.pc_books.proofs.scheme.part_at.Given as goal

abbrev pub invariant-loop-j : goal.invariant-loop-j
invariant-loop-j l =
    let sizes = map (size_of (universe_of l.scheme)) l.sorts in
    record {
      part : slice_get (tuple_at (drop l.j sizes) l.rest) (l.i - l.j) ≡ slice_get (tuple_at sizes l.place) l.i;
      below : l.rest < product (drop l.j sizes);
    }
