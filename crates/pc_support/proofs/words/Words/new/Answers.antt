use Rattle.pc_support.proofs.WordLemmas.{words_none, flags_none}
use Rattle.pc_support.proofs.words.Words.new.Goals as goal

pub invariant_of-result : goal.invariant_of-result
invariant_of-result c = words_none c.new.result.items c.new.ensures.items

pub returns : goal.returns
returns c = flags_none c.new.result.items
