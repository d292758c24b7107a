use Rattle.pc_enough_laws.proofs.Adding.{adds_up}
use Rattle.pc_enough_laws.proofs.counting.enough_adds_up.Goals as goal

pub returns : goal.returns
returns c = adds_up
