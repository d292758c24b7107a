use Rattle.std.proofs.Common.{inl, refl, arith}
use Rattle.pc_checker.proofs.ClaimLemmas.{said_in_order, said_astray}
use Rattle.pc_checker.proofs.claim.fault_of_values.Goals as goal

pub returns-then-from-place : goal.returns-then-from-place
returns-then-from-place c = inl (_, said_astray c.args.values.now c.loop-place.place c.loop-place-test.true c.loop-place.invariant (λ same. omega arith), refl)

pub loop-place-preserved : goal.loop-place-preserved
loop-place-preserved c = said_in_order c.args.values.now c.loop-place.place c.loop-place-test.true c.loop-place.invariant (omega arith)
