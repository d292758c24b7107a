use Rattle.pc_run_laws.proofs.Wrong.{wrong}
use Rattle.pc_run_laws.proofs.course.wrong_runs_are_refused.Goals as goal

pub returns : goal.returns
returns c = wrong
