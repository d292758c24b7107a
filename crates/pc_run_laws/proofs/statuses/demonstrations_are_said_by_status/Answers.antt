use Rattle.pc_run_laws.proofs.Demonstrating.{demonstrated}
use Rattle.pc_run_laws.proofs.statuses.demonstrations_are_said_by_status.Goals as goal

pub returns : goal.returns
returns c = demonstrated
