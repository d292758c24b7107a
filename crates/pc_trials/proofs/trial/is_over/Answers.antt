use Rattle.std.proofs.Common.{Contains, arith}
use Rattle.pc_lits.specs.declared.literal.Lit.{Lit}
use Rattle.pc_trials.proofs.Tested.{all_step, all_end}
use Rattle.pc_trials.proofs.trial.is_over.Goals as goal

pub loop-lit-preserved : goal.loop-lit-preserved
loop-lit-preserved c = all_step (λ (l : Lit). Contains c.args.own.now l.variable) c.args.lits.now c.loop-lit.lit-index _ c.loop-lit.invariant c.loop-lit-test.true (c.is_own.ensures c.if-not-is_own.false)

pub returns : goal.returns
returns c = λ yes. record { each = all_end (λ (l : Lit). Contains c.args.own.now l.variable) c.args.lits.now c.loop-lit.lit-index c.loop-lit.invariant (omega (arith, c.loop-lit-test.false)) }
