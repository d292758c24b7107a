use Rattle.std.proofs.Common.{arith, rules, take, Contains}
use Rattle.pc_sortcheck.proofs.Lists.{different_more, different_all}
use Rattle.pc_sortcheck.proofs.names.are_different.Goals as goal

pub loop-i-preserved : goal.loop-i-preserved
loop-i-preserved c =
    let new : ¬ Contains (take c.loop-i.i c.args.names.now) c.index-names-i.result = search rules in
    different_more c.args.names.now c.loop-i.i c.index-names-i.result c.loop-i.invariant c.index-names-i.is c.loop-i-test.true new

pub returns : goal.returns
returns c = (λ z. different_all c.args.names.now c.loop-i.i (omega arith) c.loop-i.invariant, λ h. search rules)
