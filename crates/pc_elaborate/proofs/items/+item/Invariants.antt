use Rattle.pc_elaborate.specs.Told.{variables_of}
use Rattle.pc_elaborate.proofs.ItemTold.{ArgumentsSoFar}
use Rattle.pc_elaborate.proofs.items.+item.Given as goal

abbrev pub invariant-arguments-loop-i : goal.invariant-arguments-loop-i
invariant-arguments-loop-i l = ArgumentsSoFar l.book.universe (variables_of l.variables) l.sorts l.args l.i l.terms.items
