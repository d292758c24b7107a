use Rattle.std.proofs.Common.{set, refl}
use Rattle.std.specs.Vec.{with_item}
use Rattle.pc_propagate.proofs.WatchListLemmas.{seen, same_view}
use Rattle.pc_propagate.proofs.watch_lists.WatchLists.replace.Goals as goal

pub returns : goal.returns
returns c =
    let list = rw (← c.self.view_is) at c.requires.list in
    rw (← c.self.view_is) (same_view _ _ _ _ (seen c.self.inside.lists.items c.args.list c.index_mut.result.now (with_item c.index_mut.result.now c.args.index c.args.watch) (λ l. set l c.args.index c.args.watch) list c.index_mut.ensures.value refl) refl)
