use Rattle.pc_load.proofs.Outcomes.{one_outcome}
use Rattle.pc_load.proofs.law.texts_have_one_outcome.Goals as goal

pub returns : goal.returns
returns c = one_outcome c.one_reading.ensures.sheet c.trees_have_one_outcome.ensures
