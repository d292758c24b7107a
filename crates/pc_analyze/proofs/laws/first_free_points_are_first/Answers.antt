use Rattle.pc_analyze.proofs.PointLemmas.{first_free_points_are_first}
use Rattle.pc_analyze.proofs.laws.first_free_points_are_first.Goals as goal

pub returns : goal.returns
returns c = first_free_points_are_first
