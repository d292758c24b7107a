use Rattle.std.proofs.Common.{◌≡◌, ◌≤◌, ◌^◌, length}
use Rattle.pc_cache.specs.inside.Counted.{IsCounted}
use Rattle.pc_cache.specs.inside.Kept.{HasSlots, with_slots}
use Rattle.pc_cache.specs.inside.Places.{ArePlaced}
use Rattle.pc_cache.proofs.slots.put_slots.Given as goal

abbrev pub invariant-loop-change : goal.invariant-loop-change
invariant-loop-change l =
    (goal.iterator-loop-change).can_next l.change-iterator × (goal.iterator-loop-change).is_finite l.change-iterator
    × (with_slots l.slots l.change-iterator.rest.items ≡ with_slots l.fn.slots l.fn.changes.items)
    × HasSlots l.slots l.change-iterator.rest.items × ArePlaced l.starts 0 l.slots × (length l.slots ≤ 2 ^ 21) × IsCounted l.slots l.lines
