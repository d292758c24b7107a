use Rattle.pc_enough_laws.proofs.Adding.{grows}
use Rattle.pc_enough_laws.proofs.counting.enough_grows.Goals as goal

pub returns : goal.returns
returns c = grows
