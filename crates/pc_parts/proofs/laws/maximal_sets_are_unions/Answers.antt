use Rattle.pc_parts.proofs.UnionsHold.{maximal_sets_are_unions}
use Rattle.pc_parts.proofs.laws.maximal_sets_are_unions.Goals as goal

pub returns : goal.returns
returns c = maximal_sets_are_unions
