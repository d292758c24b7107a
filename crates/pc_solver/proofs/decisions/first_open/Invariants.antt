use Rattle.std.proofs.Common.{take}
use Rattle.pc_solver.specs.inside.Banning.{AreSet}
use Rattle.pc_solver.proofs.decisions.first_open.Given as goal

abbrev pub invariant-loop-variable : goal.invariant-loop-variable
invariant-loop-variable l = AreSet (take l.variable-index l.own) l.banned l.trail.entries
