use Rattle.pc_theorem.proofs.WrongChecks.{broken_checks}
use Rattle.pc_theorem.proofs.wrong.broken_checks.Goals as goal

pub returns : goal.returns
returns c = broken_checks c.texts_have_one_outcome.ensures
