use Rattle.pc_worked_laws.proofs.ReadSizesHold.{worked_read_sizes}
use Rattle.pc_worked_laws.proofs.worked.read_sizes_are_worked.Goals as goal

pub returns : goal.returns
returns c = worked_read_sizes
