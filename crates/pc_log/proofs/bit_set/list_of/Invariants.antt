use Rattle.std.proofs.Common.{◌≡◌}
use Rattle.pc_log.specs.inside.Bits.{places_below}
use Rattle.pc_log.proofs.bit_set.list_of.Given as goal

abbrev pub invariant-loop-place : goal.invariant-loop-place
invariant-loop-place l = l.list.items ≡ places_below l.words l.place
