use Rattle.std.proofs.Common.{◌≡◌, map, take}
use Rattle.pc_cache.specs.inside.Kept.{slot_target}
use Rattle.pc_cache.proofs.listing.all_targets.Given as goal

abbrev pub invariant-loop-slot : goal.invariant-loop-slot
invariant-loop-slot l = l.targets.items ≡ map slot_target (take l.slot-index l.slots)
