use Rattle.pc_worked_laws.proofs.TrailsHold.{worked_settled, worked_first_point}
use Rattle.pc_worked_laws.proofs.worked.trails_are_worked.Goals as goal

pub returns-clause-settled : goal.returns-clause-settled
returns-clause-settled c = worked_settled

pub returns-clause-first_point : goal.returns-clause-first_point
returns-clause-first_point c = worked_first_point
