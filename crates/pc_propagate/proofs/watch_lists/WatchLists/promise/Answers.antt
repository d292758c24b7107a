use Rattle.std.proofs.Common.{Vec, ◌+◌, ap, arith, set, length, refl}
use Rattle.pc_propagate.proofs.WatchListLemmas.{kept, room_set, room_read, list_within, same_view, same_list, on_err}
use Rattle.std.specs.Global.{Global}
use Rattle.pc_propagate.specs.declared.watch_lists.Watch.{Watch}
use Rattle.pc_propagate.proofs.watch_lists.WatchLists.promise.Goals as goal

pub returns-in_err-reserve-clause-err : goal.returns-in_err-reserve-clause-err
returns-in_err-reserve-clause-err c =
    let list = rw (← c.self.view_is) at c.requires in
    on_err c.from_residual.result _ (rw (← c.self.view_is) (same_view _ _ _ _ (kept c.self.inside.lists.items c.args.list c.index_mut.result.now c.reserve.new.self list c.index_mut.ensures.value c.reserve.ensures.items) refl))

pub invariant_of-self-2 : goal.invariant_of-self-2
invariant_of-self-2 c =
    let list = rw (← c.self.view_is) at c.requires in
    let within = list_within c.self.inside.lists.items c.args.list list in
    let same = same_list c.self.inside.lists.items c.args.list c.index.result.now c.index_mut.result.now within c.index.ensures c.index_mut.ensures.value in
    let few = (room_read c.self.inside.lists.items c.self.inside.room.items c.args.list c.index_mut.result.now c.index-room.result.now c.self.invariant within c.index_mut.ensures.value c.index-room.ensures).0 in
    room_set c.self.inside.lists.items c.self.inside.room.items c.args.list c.reserve.new.self (c.index-room.result.now + 1) c.self.invariant within
    (record { promised = omega (arith, few, ap length c.reserve.ensures.items); held = omega (arith, few, c.in_ok-reserve.ensures.ok, c.reserve.ensures.len, c.len-len.ensures, ap (λ (v : Vec Watch Global). length v.items) same, c.index.result.now.ok.0, c.index_mut.result.now.ok.0) })

pub returns-clause-ok : goal.returns-clause-ok
returns-clause-ok c =
    let list = rw (← c.self.view_is) at c.requires in
    let within = list_within c.self.inside.lists.items c.args.list list in
    let read = (room_read c.self.inside.lists.items c.self.inside.room.items c.args.list c.index_mut.result.now c.index-room.result.now c.self.invariant within c.index_mut.ensures.value c.index-room.ensures).1 in
    rw (← c.self.view_is) (same_view _ _ _ _ (kept c.self.inside.lists.items c.args.list c.index_mut.result.now c.reserve.new.self list c.index_mut.ensures.value c.reserve.ensures.items) (ap (λ r. set c.self.inside.room.items c.args.list (r + 1)) read))
