use Rattle.pc_propagate.proofs.MoveLemmas.{come_none, come_step, come_smaller, come_all}
use Rattle.pc_propagate.proofs.lists.Lists.move_all.Goals as goal

pub loop-place-init : goal.loop-place-init
loop-place-init c = come_none c.args.list c.args.other c.args.self.now

pub loop-place-smaller : goal.loop-place-smaller
loop-place-smaller c =
    come_smaller c.args.list c.args.other c.in-Some.place c.loop-place.self c.take_first.new.self c.put.new.self c.requires.apart c.in-Some.ensures.within c.in-Some.ensures.was c.in-Some.ensures.taken c.put.ensures

pub loop-place-preserved : goal.loop-place-preserved
loop-place-preserved c =
    come_step c.args.list c.args.other c.in-Some.place c.args.self.now c.loop-place.self c.take_first.new.self c.put.new.self c.loop-place.invariant c.in-Some.ensures.within c.in-Some.ensures.was c.in-Some.ensures.taken c.put.ensures

pub returns : goal.returns
returns c = come_all c.args.list c.args.other c.args.self.now c.loop-place.self c.take_first.new.self c.loop-place.invariant c.in_default.ensures.same c.in_default.ensures.none
