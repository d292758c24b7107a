use Rattle.pc_enough_laws.proofs.OfWhole.{whole_learns_few}
use Rattle.pc_enough_laws.proofs.laws.whole_spendings_learn_few.Goals as goal

pub returns : goal.returns
returns c = whole_learns_few
