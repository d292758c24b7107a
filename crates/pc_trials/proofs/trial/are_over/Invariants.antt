use Rattle.std.proofs.Common.{take, All, get_or, []}
use Rattle.pc_solver.specs.Clauses.{IsOverOwn}
use Rattle.pc_trials.proofs.trial.are_over.Given as goal

abbrev pub invariant-loop-number : goal.invariant-loop-number
invariant-loop-number l = All (λ n. IsOverOwn l.own (get_or l.store n [])) (take l.number-index l.used)
