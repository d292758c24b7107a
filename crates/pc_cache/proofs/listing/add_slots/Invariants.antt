use Rattle.std.proofs.Common.{◌≡◌, ◌++◌}
use Rattle.pc_cache.specs.inside.Slots.{cell_slots}
use Rattle.pc_cache.proofs.listing.add_slots.Given as goal

abbrev pub invariant-loop-value : goal.invariant-loop-value
invariant-loop-value l = l.slots.items ≡ l.fn.slots.items ++ cell_slots l.cell.0 l.value
