use Rattle.pc_problem.proofs.Made.{parts_are_searched}
use Rattle.pc_problem.proofs.laws.parts_are_searched.Goals as goal

pub returns : goal.returns
returns c = parts_are_searched
