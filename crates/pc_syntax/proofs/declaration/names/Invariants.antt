use Rattle.std.proofs.Common.{◌≡◌, ◌++◌, length, map}
use Rattle.pc_formula.specs.Word.{name}
use Rattle.pc_syntax.proofs.declaration.names.Given as goal

abbrev pub invariant-names : goal.invariant-names
invariant-names l = l.fn.words ≡ map name l.found.items ++ l.words

abbrev pub decreases-names : goal.decreases-names
decreases-names l = length l.words
