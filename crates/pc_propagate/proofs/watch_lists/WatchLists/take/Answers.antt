use Rattle.std.proofs.Common.{refl}
use Rattle.std.specs.List.{swap_remove}
use Rattle.pc_propagate.proofs.WatchListLemmas.{seen, same_view}
use Rattle.pc_propagate.proofs.watch_lists.WatchLists.take.Goals as goal

pub returns-clause-taken : goal.returns-clause-taken
returns-clause-taken c =
    let list = rw (← c.self.view_is) at c.requires.list in
    rw (← c.self.view_is) (same_view _ _ _ _ (seen c.self.inside.lists.items c.args.list c.index_mut.result.now c.swap_remove.new.self (λ l. swap_remove l c.args.index c.swap_remove.result) list c.index_mut.ensures.value c.swap_remove.ensures.items) refl)
