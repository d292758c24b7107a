use Rattle.std.proofs.Common.{◌≡◌, ◌*◌, length}
use Rattle.pc_log.specs.inside.Bits.{places_below, AreRanks}
use Rattle.pc_log.proofs.bit_set.ranks_of.Given as goal

abbrev pub invariant-loop-at : goal.invariant-loop-at
invariant-loop-at l = (l.count ≡ length (places_below l.words (64 * l.at))) × AreRanks l.words l.ranks.items l.at
