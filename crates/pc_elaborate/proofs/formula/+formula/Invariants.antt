use Rattle.pc_elaborate.specs.Told.{variables_of}
use Rattle.pc_elaborate.proofs.FormulaTold.{PartsSoFar}
use Rattle.pc_elaborate.proofs.formula.+formula.Given as goal

abbrev pub invariant-formulas-loop-part : goal.invariant-formulas-loop-part
invariant-formulas-loop-part l = PartsSoFar l.book.universe (variables_of l.variables) l.parts l.part-index l.found.items
