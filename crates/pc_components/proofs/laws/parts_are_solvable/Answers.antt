use Rattle.pc_components.proofs.Solvable.{parts_are_solvable}
use Rattle.pc_components.proofs.laws.parts_are_solvable.Goals as goal

pub returns : goal.returns
returns c = parts_are_solvable
