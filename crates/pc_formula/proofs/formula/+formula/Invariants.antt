use Rattle.std.proofs.Common.{◌+◌, ◌*◌, ◌<◌, ◌≤◌, length, map}
use Rattle.pc_formula.specs.Tree.{formula_of}
use Rattle.pc_formula.specs.Grammar.{by_or, by_and}
use Rattle.pc_formula.proofs.Joining.{Joins}
use Rattle.pc_formula.proofs.formula.+formula.Given as goal

-- each form calls the next one at the same words, and goes back to the first behind a parenthesis or a quantifier
abbrev pub decreases-read_formula : goal.decreases-read_formula
decreases-read_formula l = 6 * length l.words.now + 5

abbrev pub decreases-iff : goal.decreases-iff
decreases-iff l = 6 * length l.words.now + 4

abbrev pub decreases-imp : goal.decreases-imp
decreases-imp l = 6 * length l.words.now + 3

abbrev pub decreases-or : goal.decreases-or
decreases-or l = 6 * length l.words.now + 2

abbrev pub decreases-and : goal.decreases-and
decreases-and l = 6 * length l.words.now + 1

abbrev pub decreases-unary : goal.decreases-unary
decreases-unary l = 6 * length l.words.now

abbrev pub invariant-or-parts : goal.invariant-or-parts
invariant-or-parts l = record {
  joins : Joins by_or l.fn.words (map formula_of l.parts.items) l.words;
  many : 2 ≤ length l.parts.items;
  shorter : length l.words < length l.fn.words;
}

abbrev pub decreases-or-parts : goal.decreases-or-parts
decreases-or-parts l = length l.words

abbrev pub invariant-and-parts : goal.invariant-and-parts
invariant-and-parts l = record {
  joins : Joins by_and l.fn.words (map formula_of l.parts.items) l.words;
  many : 2 ≤ length l.parts.items;
  shorter : length l.words < length l.fn.words;
}

abbrev pub decreases-and-parts : goal.decreases-and-parts
decreases-and-parts l = length l.words
