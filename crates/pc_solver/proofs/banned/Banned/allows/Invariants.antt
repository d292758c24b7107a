use Rattle.std.proofs.Common.{take}
use Rattle.pc_solver.specs.Banned.{AreAskable}
use Rattle.pc_solver.proofs.banned.Banned.allows.Given as goal

abbrev pub invariant-loop-lit : goal.invariant-loop-lit
invariant-loop-lit l = AreAskable l.self (take l.lit-index l.lits)
