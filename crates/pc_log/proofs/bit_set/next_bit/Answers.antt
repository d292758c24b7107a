use Rattle.std.proofs.Common.{arith}
use Rattle.pc_log.proofs.PlaceLemmas.{some_before_end}
use Rattle.pc_log.proofs.bit_set.next_bit.Goals as goal

pub returns-clause-has : goal.returns-clause-has
returns-clause-has c = absurd (some_before_end c.args.words.now c.args.from c.loop-place.place c.requires.some c.loop-place.invariant (omega arith))
