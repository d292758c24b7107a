use Rattle.std.proofs.Common.{take, All, length, ◌<◌}
use Rattle.pc_trials.proofs.trial.are_places.Given as goal

abbrev pub invariant-loop-number : goal.invariant-loop-number
invariant-loop-number l = All (λ n. n < length l.store) (take l.number-index l.used)
