use Rattle.pc_run_laws.proofs.Cutting.{writes_fail}
use Rattle.pc_run_laws.proofs.OneMore.{notes_one}
use Rattle.pc_run_laws.proofs.statuses.failed_writes_are_told.Goals as goal

pub returns : goal.returns
returns c = writes_fail notes_one
