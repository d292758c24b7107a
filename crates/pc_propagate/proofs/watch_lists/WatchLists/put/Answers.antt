use Rattle.std.proofs.Common.{◌<◌, [], ◌∷◌, ◌++◌, refl, arith, length, vec_capacity}
use Rattle.pc_propagate.proofs.WatchListLemmas.{seen, same_view, has_room, pushed_in}
use Rattle.pc_propagate.proofs.watch_lists.WatchLists.put.Goals as goal

pub returns : goal.returns
returns c =
    let list = rw (← c.self.view_is) at c.requires.list in
    let room = rw (← c.self.view_is) at c.requires.room in
    let free : length c.index_mut.result.now.items < vec_capacity c.index_mut.result.now = has_room c.self.inside.lists.items c.self.inside.room.items c.args.list c.index_mut.result.now c.self.invariant list c.index_mut.ensures.value room in
    let ok = c.push.ensures.succeeds (omega (arith, free, c.index_mut.result.now.ok.0)) in
    rw (← c.self.view_is) (same_view _ _ _ _ (seen c.self.inside.lists.items c.args.list c.index_mut.result.now c.push.new.self (λ l. l ++ c.args.watch ∷ []) list c.index_mut.ensures.value (pushed_in c.push.result _ _ _ ok c.push.ensures.items)) refl)
