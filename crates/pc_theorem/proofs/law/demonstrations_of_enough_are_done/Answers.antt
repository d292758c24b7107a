use Rattle.pc_theorem.proofs.EnoughDemonstrated.{enough_demonstrated}
use Rattle.pc_theorem.proofs.law.demonstrations_of_enough_are_done.Goals as goal

pub returns : goal.returns
returns c = enough_demonstrated
