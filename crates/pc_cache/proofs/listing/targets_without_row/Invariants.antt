use Rattle.std.proofs.Common.{◌≡◌, map, filter, take}
use Rattle.pc_cache.specs.inside.Kept.{slot_is_missing, slot_target}
use Rattle.pc_cache.proofs.listing.targets_without_row.Given as goal

abbrev pub invariant-loop-slot : goal.invariant-loop-slot
invariant-loop-slot l = l.targets.items ≡ map slot_target (filter slot_is_missing (take l.slot-index l.slots))
