use Rattle.pc_enough_laws.proofs.Sets.{sets_few}
use Rattle.pc_enough_laws.proofs.laws.maximal_sets_are_few.Goals as goal

pub returns : goal.returns
returns c = sets_few
