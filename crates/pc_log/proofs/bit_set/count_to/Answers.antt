use Rattle.std.proofs.Common.{arith}
use Rattle.pc_log.proofs.PlaceLemmas.{count_more, count_small}
use Rattle.pc_log.proofs.bit_set.count_to.Goals as goal

pub loop-place-init : goal.loop-place-init
loop-place-init c = (c.requires.count, omega (arith, c.requires.count, count_small c.args.words.now c.args.from))

pub loop-place-preserved : goal.loop-place-preserved
loop-place-preserved c =
    let more = count_more c.args.words.now c.loop-place.place in
    (omega (arith, more, c.loop-place.invariant.0, c.bits_at-count.ensures.value), omega (arith, c.loop-place.invariant.1, c.bits_at-count.ensures.small))
