use Rattle.pc_elaborate.specs.Told.{variables_of}
use Rattle.pc_elaborate.proofs.SideTold.{AddedSoFar}
use Rattle.pc_elaborate.proofs.sides.added_items.Given as goal

abbrev pub invariant-loop-sign : goal.invariant-loop-sign
invariant-loop-sign l = AddedSoFar l.book.universe (variables_of l.variables) l.rest l.sign-index l.items.items
