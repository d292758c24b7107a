use Rattle.pc_enough_laws.proofs.Learning.{logs_learn_few}
use Rattle.pc_enough_laws.proofs.laws.lawful_logs_learn_few.Goals as goal

pub returns : goal.returns
returns c = logs_learn_few
