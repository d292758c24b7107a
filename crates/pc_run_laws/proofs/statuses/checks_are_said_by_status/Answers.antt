use Rattle.pc_run_laws.proofs.Checking.{checked}
use Rattle.pc_run_laws.proofs.statuses.checks_are_said_by_status.Goals as goal

pub returns : goal.returns
returns c = checked
