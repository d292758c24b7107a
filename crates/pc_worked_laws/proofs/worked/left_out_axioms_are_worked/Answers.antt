use Rattle.pc_worked_laws.proofs.LeftOutHolds.{worked_twice, worked_constants}
use Rattle.pc_worked_laws.proofs.worked.left_out_axioms_are_worked.Goals as goal

pub returns-clause-kept : goal.returns-clause-kept
returns-clause-kept c = worked_twice

pub returns-clause-constants : goal.returns-clause-constants
returns-clause-constants c = worked_constants
