use Rattle.pc_run_laws.proofs.Worked.{worked}
use Rattle.pc_run_laws.proofs.course.runs_are_worked.Goals as goal

pub returns : goal.returns
returns c = worked
