use Rattle.pc_enough_laws.proofs.Adding.{enough_worked}
use Rattle.pc_enough_laws.proofs.counting.enough_is_worked.Goals as goal

pub returns : goal.returns
returns c = enough_worked
