use Rattle.std.proofs.Common.{rules, ◌≡◌, replicate, arith}
use Rattle.pc_propagate.proofs.WatchListLemmas.{blank_room, one_more, counted}
use Rattle.pc_propagate.proofs.watch_lists.WatchLists.new.Goals as goal

pub lists-preserved : goal.lists-preserved
lists-preserved c = one_more c.lists.counter c.lists.lists.items _ c.new.result c.lists.invariant c.new.ensures.items c.in_ok-push.ensures.items

pub invariant_of-result : goal.invariant_of-result
invariant_of-result c =
    let room : c.in_ok-room.room.items ≡ replicate c.args.count 0 = search rules in
    blank_room _ _ c.args.count (counted c.lists.counter c.args.count _ (omega (arith, c.lists-test.false, c.lists.auto.counter-end)) c.lists.invariant) room
