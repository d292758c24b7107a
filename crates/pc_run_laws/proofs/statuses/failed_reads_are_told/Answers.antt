use Rattle.pc_run_laws.proofs.Sentences.{reads_fail}
use Rattle.pc_run_laws.proofs.statuses.failed_reads_are_told.Goals as goal

pub returns : goal.returns
returns c = reads_fail
