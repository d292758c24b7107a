use Rattle.std.proofs.Common.{◌+◌, ◌*◌, ◌≤◌, length, map}
use Rattle.pc_formula.specs.Tree.{item_of}
use Rattle.pc_formula.specs.Side.{DerivesItem}
use Rattle.pc_formula.proofs.Lists.{Lists}
use Rattle.pc_formula.proofs.items.+item.Given as goal

-- arguments start with an item at the same words, and an item has arguments behind a parenthesis
abbrev pub decreases-item : goal.decreases-item
decreases-item l = 2 * length l.words.now

abbrev pub decreases-items : goal.decreases-items
decreases-items l = 2 * length l.words.now + 1

abbrev pub invariant-items-items : goal.invariant-items-items
invariant-items-items l = record {
  lists : Lists DerivesItem l.fn.words (map item_of l.found.items) l.words;
  shorter : length l.words ≤ length l.fn.words;
}

abbrev pub decreases-items-items : goal.decreases-items-items
decreases-items-items l = length l.words
