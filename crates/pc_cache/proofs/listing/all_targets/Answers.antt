use Rattle.std.proofs.Common.{◌++◌, ◌∷◌, [], List, get_or, map, ap, sym, ◌∙◌}
use Rattle.std.proofs.lemmas.List.{map_more, take_all}
use Rattle.pc_sheet.specs.declared.ids.Target.{Target}
use Rattle.pc_cache.specs.inside.Kept.{slot_target}
use Rattle.pc_cache.specs.declared.row.Slot.{Slot}
use Rattle.pc_cache.proofs.listing.all_targets.Goals as goal

pub loop-slot-preserved : goal.loop-slot-preserved
loop-slot-preserved c =
    c.in_ok-push.ensures.items ∙ ap (λ (x : Slot). c.loop-slot.targets.items ++ x.target ∷ []) c.slot-item.is
    ∙ ap (λ (ts : List Target). ts ++ slot_target (get_or c.args.slots.now c.loop-slot.slot-index c.slot-item.result) ∷ []) c.loop-slot.invariant
    ∙ sym (map_more slot_target c.args.slots.now c.loop-slot.slot-index c.slot-item.result c.loop-slot-test.true)

pub returns : goal.returns
returns c = c.loop-slot.invariant ∙ ap (λ (ss : List Slot). map slot_target ss) (take_all c.loop-slot.slot-index c.args.slots.now c.loop-slot-test.false)
