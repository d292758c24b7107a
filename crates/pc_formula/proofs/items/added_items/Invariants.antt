use Rattle.std.proofs.Common.{◌≤◌, length, map}
use Rattle.pc_formula.specs.Tree.{added_of}
use Rattle.pc_formula.proofs.Sides.{Sums}
use Rattle.pc_formula.proofs.items.added_items.Given as goal

abbrev pub invariant-added : goal.invariant-added
invariant-added l = record {
  sums : Sums l.fn.words (map added_of l.found.items) l.words;
  shorter : length l.words ≤ length l.fn.words;
}

abbrev pub decreases-added : goal.decreases-added
decreases-added l = length l.words
