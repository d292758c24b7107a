use Rattle.std.proofs.Common.{List, refl, ap}
use Rattle.pc_cache.specs.Patches.{PatchView}
use Rattle.pc_cache.specs.Rows.{TargetRow}
use Rattle.pc_cache.specs.inside.Patched.{last_in, settled_in}
use Rattle.pc_cache.proofs.SlotLemmas.{rows_in-push}
use Rattle.pc_cache.proofs.PatchLemmas.{put_nothing}
use Rattle.pc_cache.proofs.patch.Patch.remove.Goals as goal

pub invariant_of-self-2 : goal.invariant_of-self-2
invariant_of-self-2 c = rw c.in_ok-push.ensures.items (put_nothing c.self.inside.whole c.self.inside.blocks.items c.self.inside.slots.items _ refl tt c.self.invariant)

pub returns-clause-ok : goal.returns-clause-ok
returns-clause-ok c =
    rw (c.in_ok-push.ensures.items, ← c.self.view_is)
    (ap (λ (rs : List TargetRow). let p : PatchView = record { rows = rs; settled = settled_in c.self.inside.blocks.items; last = last_in c.self.inside.blocks.items } in p)
    (rows_in-push c.self.inside.blocks.items c.self.inside.slots.items _))
