use Rattle.pc_accept.proofs.SetsWorked.{worked_sets}
use Rattle.pc_accept.proofs.law.worked_sets.Goals as goal

pub returns : goal.returns
returns c = worked_sets
