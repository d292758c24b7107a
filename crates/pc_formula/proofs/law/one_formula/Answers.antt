use Rattle.std.proofs.Common.{[]}
use Rattle.pc_formula.specs.Grammar.{whole}
use Rattle.pc_formula.proofs.Sizes.{sized, words_within}
use Rattle.pc_formula.proofs.Unambiguous.{one_tree}
use Rattle.pc_formula.proofs.Nests as nests
use Rattle.pc_formula.proofs.TokenWords.{short_line}
use Rattle.pc_formula.proofs.law.one_formula.Goals as goal

pub returns-clause-once : goal.returns-clause-once
returns-clause-once c = one_tree

pub returns-clause-nested : goal.returns-clause-nested
returns-clause-nested c = nests.nested

pub returns-clause-sized : goal.returns-clause-sized
returns-clause-sized c = λ ws f is few. sized whole ws f [] is few

pub returns-clause-words : goal.returns-clause-words
returns-clause-words c = words_within

pub returns-clause-short : goal.returns-clause-short
returns-clause-short c = short_line
