use Rattle.std.proofs.Common.{◌≡◌, List, ap, ◌∙◌, subst, map, filter}
use Rattle.std.specs.Result.{IfOk}
use Rattle.pc_sheet.specs.declared.ids.Target.{Target}
use Rattle.pc_cache.specs.Rows.{Cached}
use Rattle.pc_cache.specs.inside.Kept.{slot_target, slot_rests_on}
use Rattle.pc_cache.specs.declared.row.Slot.{Slot}
use Rattle.pc_cache.proofs.SlotLemmas.{resting_are}
use Rattle.pc_cache.proofs.cache.Cache.after_clear.Goals as goal

pub returns : goal.returns
returns c =
    subst (λ (targets : List Target). IfOk c.targets_resting_on.result (λ v. v.items ≡ targets))
    (ap (λ (ss : List Slot). map slot_target (filter (slot_rests_on c.args.entry) ss)) c.deref.ensures.value ∙ resting_are c.self.inside.blocks.items c.self.inside.starts.items c.args.entry c.self.inside.slots.items c.args.self.now.rows c.self.invariant.1.placed (ap (λ (r : Cached). r.rows) c.self.view_is))
    c.targets_resting_on.ensures
