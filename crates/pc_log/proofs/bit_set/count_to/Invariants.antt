use Rattle.std.proofs.Common.{◌≡◌, ◌≤◌, length}
use Rattle.pc_log.specs.inside.Bits.{places_below}
use Rattle.pc_log.proofs.bit_set.count_to.Given as goal

abbrev pub invariant-loop-place : goal.invariant-loop-place
invariant-loop-place l = (l.count ≡ length (places_below l.words l.place)) × (l.count ≤ l.place)
