use Rattle.pc_accept.proofs.WorkedHold.{worked_refutation}
use Rattle.pc_accept.proofs.law.worked_refutation.Goals as goal

pub returns : goal.returns
returns c = worked_refutation
