use Rattle.pc_problem.proofs.Made.{whole_is_searched}
use Rattle.pc_problem.proofs.laws.whole_is_searched.Goals as goal

pub returns : goal.returns
returns c = whole_is_searched
