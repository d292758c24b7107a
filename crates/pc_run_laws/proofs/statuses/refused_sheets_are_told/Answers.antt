use Rattle.pc_run_laws.proofs.Sentences.{sheets_refused}
use Rattle.pc_run_laws.proofs.statuses.refused_sheets_are_told.Goals as goal

pub returns : goal.returns
returns c = sheets_refused
