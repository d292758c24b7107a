use Rattle.std.proofs.Common.{◌≡◌, List, ap, ◌∙◌, subst, map}
use Rattle.std.specs.Result.{IfOk}
use Rattle.pc_sheet.specs.declared.ids.Target.{Target}
use Rattle.pc_cache.specs.Rows.{Cached}
use Rattle.pc_cache.specs.inside.Kept.{slot_target}
use Rattle.pc_cache.specs.declared.row.Slot.{Slot}
use Rattle.pc_cache.proofs.SlotLemmas.{all_are}
use Rattle.pc_cache.proofs.cache.Cache.after_rules.Goals as goal

pub returns : goal.returns
returns c =
    subst (λ (targets : List Target). IfOk c.all_targets.result (λ v. v.items ≡ targets))
    (ap (λ (ss : List Slot). map slot_target ss) c.deref.ensures.value ∙ all_are c.self.inside.blocks.items c.self.inside.slots.items c.args.self.now.rows (ap (λ (r : Cached). r.rows) c.self.view_is))
    c.all_targets.ensures
