use Rattle.std.proofs.Common.{◌≡◌, drop}
use Rattle.std.specs.List.{list_any}
use Rattle.pc_cache.specs.inside.Kept.{slot_rests_on}
use Rattle.pc_cache.proofs.listing.is_used.Given as goal

abbrev pub invariant-loop-slot : goal.invariant-loop-slot
invariant-loop-slot l = list_any (slot_rests_on l.entry) l.slots ≡ list_any (slot_rests_on l.entry) (drop l.slot-index l.slots)
