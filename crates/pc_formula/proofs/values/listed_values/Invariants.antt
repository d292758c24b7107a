use Rattle.std.proofs.Common.{length, map}
use Rattle.pc_formula.specs.Tree.{value_of}
use Rattle.pc_formula.specs.Value.{DerivesValue}
use Rattle.pc_formula.proofs.Lists.{Lists}
use Rattle.pc_formula.proofs.values.listed_values.Given as goal

abbrev pub invariant-values : goal.invariant-values
invariant-values l = Lists DerivesValue l.fn.words (map value_of l.values.items) l.words

abbrev pub decreases-values : goal.decreases-values
decreases-values l = length l.words
