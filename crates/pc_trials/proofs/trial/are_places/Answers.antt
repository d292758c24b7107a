use Rattle.std.proofs.Common.{◌<◌, arith, length}
use Rattle.pc_trials.proofs.Tested.{all_step, all_end}
use Rattle.pc_trials.proofs.trial.are_places.Goals as goal

pub loop-number-preserved : goal.loop-number-preserved
loop-number-preserved c = all_step (λ n. n < length c.args.store.now) c.args.used.now c.loop-number.number-index 0 c.loop-number.invariant c.loop-number-test.true (omega (arith, c.if-number-len.false, c.len.ensures))

pub returns : goal.returns
returns c = λ yes. all_end (λ n. n < length c.args.store.now) c.args.used.now c.loop-number.number-index c.loop-number.invariant (omega (arith, c.loop-number-test.false))
