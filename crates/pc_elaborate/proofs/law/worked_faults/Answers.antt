use Rattle.pc_elaborate.proofs.WorkedFaults.{worked_faults}
use Rattle.pc_elaborate.proofs.law.worked_faults.Goals as goal

pub returns : goal.returns
returns c = worked_faults
