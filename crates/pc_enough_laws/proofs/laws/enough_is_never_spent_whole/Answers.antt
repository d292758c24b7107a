use Rattle.pc_enough_laws.proofs.OfWhole.{never_spent_whole}
use Rattle.pc_enough_laws.proofs.laws.enough_is_never_spent_whole.Goals as goal

pub returns : goal.returns
returns c = never_spent_whole
