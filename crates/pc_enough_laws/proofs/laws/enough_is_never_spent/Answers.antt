use Rattle.pc_enough_laws.proofs.NeverSpent.{never_spent}
use Rattle.pc_enough_laws.proofs.laws.enough_is_never_spent.Goals as goal

pub returns : goal.returns
returns c = never_spent
