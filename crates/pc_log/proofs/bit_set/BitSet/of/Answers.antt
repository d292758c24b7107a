use Rattle.pc_log.proofs.PlaceLemmas.{of_bits}
use Rattle.pc_log.proofs.bit_set.BitSet.of.Goals as goal

pub returns : goal.returns
returns c = of_bits c.in_ok-words.words.items c.args.places.now c.requires c.in_ok-words.ensures.has
