use Rattle.std.proofs.Common.{take, All, ◌<◌}
use Rattle.pc_lits.specs.declared.literal.Var.{Var}
use Rattle.pc_trials.proofs.trial.are_below.Given as goal

abbrev pub invariant-loop-variable : goal.invariant-loop-variable
invariant-loop-variable l = All (λ (v : Var). v.0 < l.variables) (take l.variable-index l.own)
