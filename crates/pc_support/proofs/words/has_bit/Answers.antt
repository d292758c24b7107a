use Rattle.pc_support.proofs.WordLemmas.{bit_tests}
use Rattle.pc_support.proofs.words.has_bit.Goals as goal

pub returns : goal.returns
returns c = bit_tests c.args.words.now c.args.place c.word_at.result c.word_at.ensures
