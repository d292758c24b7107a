use Rattle.std.proofs.Common.{take}
use Rattle.pc_elaborate.specs.FormulaFaults.{IsAround}
use Rattle.pc_elaborate.specs.Told.{variables_of}
use Rattle.pc_elaborate.proofs.scope.variable_named.Given as goal

abbrev pub invariant-loop-k : goal.invariant-loop-k
invariant-loop-k l = ¬ IsAround (variables_of (take l.k l.variables)) l.name
