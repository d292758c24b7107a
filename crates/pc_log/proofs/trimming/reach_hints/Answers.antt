use Rattle.std.proofs.lemmas.List.{take_all}
use Rattle.pc_log.proofs.ReachLemmas.{reach_more}
use Rattle.pc_log.proofs.trimming.reach_hints.Goals as goal

pub loop-hint-preserved : goal.loop-hint-preserved
loop-hint-preserved c =
    reach_more c.args.reached.now.items c.loop-hint.reached.items c.reach.new.reached.items c.loop-hint.slots c.reach.new.slots c.args.hints.now c.loop-hint.hint-index (record { 0 = 0 }) c.loop-hint-test.true
    c.loop-hint.invariant c.in_ok-reach.ensures

pub returns : goal.returns
returns c = rw (take_all c.loop-hint.hint-index c.args.hints.now c.loop-hint-test.false) at c.loop-hint.invariant
