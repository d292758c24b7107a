use Rattle.std.proofs.Common.{take}
use Rattle.pc_solver.specs.Clauses.{IsOverOwn}
use Rattle.pc_trials.proofs.trial.is_over.Given as goal

abbrev pub invariant-loop-lit : goal.invariant-loop-lit
invariant-loop-lit l = IsOverOwn l.own (take l.lit-index l.lits)
