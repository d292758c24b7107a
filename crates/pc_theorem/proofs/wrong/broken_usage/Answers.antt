use Rattle.pc_theorem.proofs.WrongChecks.{broken_usage}
use Rattle.pc_theorem.proofs.wrong.broken_usage.Goals as goal

pub returns : goal.returns
returns c = broken_usage c.words_are_worked.ensures
