use Rattle.std.proofs.Common.{get_or, [], arith, subst, sym}
use Rattle.std.proofs.lemmas.Option.{get_or_from_slice_get}
use Rattle.pc_solver.specs.Clauses.{IsOverOwn}
use Rattle.pc_trials.proofs.Tested.{all_step, all_end}
use Rattle.pc_trials.proofs.trial.are_over.Goals as goal

pub loop-number-preserved : goal.loop-number-preserved
loop-number-preserved c = all_step (λ n. IsOverOwn c.args.own.now (get_or c.args.store.now n [])) c.args.used.now c.loop-number.number-index _ c.loop-number.invariant c.loop-number-test.true (subst (IsOverOwn c.args.own.now) (sym (get_or_from_slice_get c.args.store.now _ c.get.result.now [] c.get.ensures)) (c.is_over.ensures c.if-not-is_over.false).each)

pub returns : goal.returns
returns c = λ yes. all_end (λ n. IsOverOwn c.args.own.now (get_or c.args.store.now n [])) c.args.used.now c.loop-number.number-index c.loop-number.invariant (omega (arith, c.loop-number-test.false))
