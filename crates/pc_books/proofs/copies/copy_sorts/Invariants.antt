use Rattle.std.proofs.Common.{◌≡◌, map, take}
use Rattle.pc_books.specs.SchemeView.{sort_of}
use Rattle.pc_books.proofs.copies.copy_sorts.Given as goal

abbrev pub invariant-loop-sort : goal.invariant-loop-sort
invariant-loop-sort l = map sort_of l.copies.items ≡ map sort_of (take l.sort-index l.sorts)
