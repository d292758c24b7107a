use Rattle.std.proofs.Common.{◌≡◌, map, take}
use Rattle.pc_books.specs.Sound.{counted_of}
use Rattle.pc_books.proofs.copies.copy_families.Given as goal

abbrev pub invariant-loop-family : goal.invariant-loop-family
invariant-loop-family l = map counted_of l.copies.items ≡ map counted_of (take l.family-index l.families)
