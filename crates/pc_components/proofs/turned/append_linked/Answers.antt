use Rattle.std.proofs.Common.{arith}
use Rattle.pc_components.proofs.Linking.{next_smaller, place_more, all_appended}
use Rattle.pc_components.proofs.turned.append_linked.Goals as goal

pub loop-next-smaller : goal.loop-next-smaller
loop-next-smaller c = next_smaller c.args.links.now c.loop-next.next c.requires.linked c.loop-next-test.true c.loop-next.invariant.within

pub loop-next-preserved : goal.loop-next-preserved
loop-next-preserved c =
    let smaller = next_smaller c.args.links.now c.loop-next.next c.requires.linked c.loop-next-test.true c.loop-next.invariant.within in
    record {
      within = omega (arith, smaller, c.loop-next.invariant.within);
      places = place_more c.args.links.now c.loop-next.next c.loop-next.places.items _ _ c.requires.linked c.loop-next-test.true c.loop-next.invariant.within c.loop-next.invariant.places c.in_ok-push.ensures.items;
    }

pub returns : goal.returns
returns c = all_appended c.args.links.now c.loop-next.next c.loop-next.places.items _ (omega (arith, c.loop-next-test.false)) c.loop-next.invariant.places
