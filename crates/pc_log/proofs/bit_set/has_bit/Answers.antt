use Rattle.pc_log.proofs.PlaceLemmas.{bit_tests}
use Rattle.pc_log.proofs.bit_set.has_bit.Goals as goal

pub returns : goal.returns
returns c = bit_tests c.args.words.now c.args.place c.word_at.result c.word_at.ensures
