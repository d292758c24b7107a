use Rattle.std.proofs.Common.{◌<◌, arith}
use Rattle.pc_lits.specs.declared.literal.Var.{Var}
use Rattle.pc_trials.proofs.Tested.{all_step, all_end}
use Rattle.pc_trials.proofs.trial.are_below.Goals as goal

pub loop-variable-preserved : goal.loop-variable-preserved
loop-variable-preserved c = all_step (λ (v : Var). v.0 < c.args.variables) c.args.own.now c.loop-variable.variable-index (record { 0 = 0 }) c.loop-variable.invariant c.loop-variable-test.true (omega (arith, c.if-variable-variables.false))

pub returns : goal.returns
returns c = λ yes. all_end (λ (v : Var). v.0 < c.args.variables) c.args.own.now c.loop-variable.variable-index c.loop-variable.invariant (omega (arith, c.loop-variable-test.false))
