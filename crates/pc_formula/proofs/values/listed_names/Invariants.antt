use Rattle.std.proofs.Common.{length}
use Rattle.pc_formula.specs.Value.{DerivesName}
use Rattle.pc_formula.proofs.Lists.{Lists}
use Rattle.pc_formula.proofs.values.listed_names.Given as goal

abbrev pub invariant-names : goal.invariant-names
invariant-names l = Lists DerivesName l.fn.words l.names.items l.words

abbrev pub decreases-names : goal.decreases-names
decreases-names l = length l.words
