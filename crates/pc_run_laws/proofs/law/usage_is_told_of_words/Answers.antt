use Rattle.pc_run_laws.proofs.Usages.{usages, words_are_told}
use Rattle.pc_run_laws.proofs.law.usage_is_told_of_words.Goals as goal

pub returns-clause-only : goal.returns-clause-only
returns-clause-only c = usages

pub returns-clause-whenever : goal.returns-clause-whenever
returns-clause-whenever c = words_are_told
