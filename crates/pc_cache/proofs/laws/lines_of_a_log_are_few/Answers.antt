use Rattle.pc_cache.proofs.LastLemmas.{few_of_log}
use Rattle.pc_cache.proofs.laws.lines_of_a_log_are_few.Goals as goal

pub returns : goal.returns
returns c = few_of_log
