use Rattle.std.proofs.Common.{◌≡◌, sym, ◌∙◌, subst, arith, false, true}
use Rattle.std.proofs.lemmas.Option.{slice_get-get_or}
use Rattle.pc_cache.specs.inside.Places.{IsSlotOf}
use Rattle.pc_cache.proofs.Targets.{same_target, same_by}
use Rattle.pc_cache.proofs.SlotLemmas.{no_slot_by, slot_at, target_at, within_slots, some_place}
use Rattle.pc_cache.proofs.slots.find.Goals as goal
use Rattle.pc_cache.proofs.slots.find.Goals.{else-place-slots-via-then-place-slots+else-is_same, else-place-slots-via-else-place-slots}

pub returns-in-None : goal.returns-in-None
returns-in-None c = no_slot_by c.args.starts.now c.args.slots.now c.args.target c.requires.placed (λ k at. absurd (cc (c.in-None.ensures, at)))

pub returns-then-is_same : goal.returns-then-is_same
returns-then-is_same c =
    slot_at c.args.slots.now c.in-Some.place _ c.args.target (slice_get-get_or c.args.slots.now c.in-Some.place c.index-slots-place.result c.if-place-slots.true)
    (same_target _ _ (sym c.is_same.ensures ∙ c.if-is_same.true))

pub returns-else-place-slots : goal.returns-else-place-slots
returns-else-place-slots c =
    no_slot_by c.args.starts.now c.args.slots.now c.args.target c.requires.placed (λ k at is.
    let here : k ≡ c.in-Some.place = some_place _ _ (sym at ∙ sym c.in-Some.ensures) in
    let there : IsSlotOf c.args.slots.now c.args.target c.in-Some.place = subst (IsSlotOf c.args.slots.now c.args.target) here is in
    elim c.else-place-slots.branch [
      | else-place-slots-via-then-place-slots+else-is_same w ↦
          let same = same_by _ _ (target_at c.args.slots.now c.in-Some.place _ c.args.target (slice_get-get_or c.args.slots.now c.in-Some.place w.index-slots-place.result w.if-place-slots.true) there) in
          let both : true ≡ false = sym same ∙ sym w.is_same.ensures ∙ w.if-is_same.false in cc both
      | else-place-slots-via-else-place-slots w ↦ absurd (omega (arith, w.if-place-slots.false, within_slots c.args.slots.now c.in-Some.place c.args.target there))
    ])
