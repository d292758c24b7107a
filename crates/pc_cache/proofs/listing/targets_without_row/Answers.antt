use Rattle.std.proofs.Common.{◌++◌, ◌∷◌, [], List, ap, sym, ◌∙◌, map, filter}
use Rattle.std.proofs.lemmas.List.{take_all}
use Rattle.pc_cache.specs.inside.Kept.{slot_is_missing, slot_target}
use Rattle.pc_cache.specs.declared.row.Slot.{Slot}
use Rattle.pc_cache.proofs.SlotLemmas.{passes, fails}
use Rattle.pc_cache.proofs.listing.targets_without_row.Goals as goal
use Rattle.pc_cache.proofs.listing.targets_without_row.Goals.{then-is_missing+in_ok-push, else-is_missing}

pub loop-slot-preserved : goal.loop-slot-preserved
loop-slot-preserved c =
    let is = sym (ap slot_is_missing c.slot-item.is) ∙ sym c.is_missing.ensures in
    elim c.if-is_missing.branch [
      | then-is_missing+in_ok-push w ↦
          rw w.targets-is (passes slot_is_missing c.args.slots.now c.loop-slot.slot-index c.slot-item.result c.loop-slot.targets.items _ c.loop-slot-test.true (is ∙ w.if-is_missing.true) c.loop-slot.invariant (w.in_ok-push.ensures.items ∙ ap (λ (x : Slot). c.loop-slot.targets.items ++ x.target ∷ []) c.slot-item.is))
      | else-is_missing w ↦
          rw w.targets-is (fails slot_is_missing c.args.slots.now c.loop-slot.slot-index c.slot-item.result c.loop-slot.targets.items c.loop-slot-test.true (is ∙ w.if-is_missing.false) c.loop-slot.invariant)
    ]

pub returns : goal.returns
returns c = c.loop-slot.invariant ∙ ap (λ (ss : List Slot). map slot_target (filter slot_is_missing ss)) (take_all c.loop-slot.slot-index c.args.slots.now c.loop-slot-test.false)
