use Rattle.std.proofs.Common.{[], refl}
use Rattle.pc_propagate.proofs.WatchListLemmas.{seen, same_view}
use Rattle.pc_propagate.proofs.watch_lists.WatchLists.forget.Goals as goal

pub returns : goal.returns
returns c =
    let list = rw (← c.self.view_is) at c.requires in
    rw (← c.self.view_is) (same_view _ _ _ _ (seen c.self.inside.lists.items c.args.list c.index_mut.result.now c.clear.new.self (λ l. []) list c.index_mut.ensures.value c.clear.ensures.items) refl)
