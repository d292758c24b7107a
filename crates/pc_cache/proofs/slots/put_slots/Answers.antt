use Rattle.std.proofs.Common.{ap, sym, ◌∙◌, subst}
use Rattle.pc_cache.specs.inside.Kept.{HasSlots, with_slots}
use Rattle.pc_cache.proofs.SlotLemmas.{ArePlaced-with, HasSlots-with, few_with, nothing_left}
use Rattle.pc_cache.proofs.slots.put_slots.Goals as goal

pub put_slot-requires-clause-has : goal.put_slot-requires-clause-has
put_slot-requires-clause-has c = (subst (HasSlots c.loop-change.slots) c.in-Some.ensures.steps.0 c.loop-change.invariant.3).0

pub loop-change-preserved : goal.loop-change-preserved
loop-change-preserved c =
    let steps = c.in-Some.ensures.steps.0 in
    let rest = c.next.new.self.rest.items in
    let have = (subst (HasSlots c.loop-change.slots) steps c.loop-change.invariant.3).1 in
    rw c.put_slot.ensures.put (
      tt,
      tt,
      ap (with_slots c.loop-change.slots) (sym steps) ∙ c.loop-change.invariant.2,
      HasSlots-with c.loop-change.slots c.in-Some.change rest have,
      ArePlaced-with c.args.starts.now 0 c.loop-change.slots c.in-Some.change c.loop-change.invariant.4,
      few_with c.loop-change.slots c.in-Some.change c.loop-change.invariant.5,
      rw (sym c.put_slot.ensures.put) c.put_slot.ensures.counted,
    )

pub returns-clause-put : goal.returns-clause-put
returns-clause-put c =
    let rest = c.loop-change.change-iterator.rest in
    ap (with_slots c.loop-change.slots) (sym (nothing_left rest.items (sym rest.ok.0 ∙ c.in-None.ensures.steps.0))) ∙ c.loop-change.invariant.2
