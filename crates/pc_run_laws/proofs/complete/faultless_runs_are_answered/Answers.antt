use Rattle.pc_run_laws.proofs.Ending.{faultless_runs_end}
use Rattle.pc_run_laws.proofs.complete.faultless_runs_are_answered.Goals as goal

pub returns : goal.returns
returns c = faultless_runs_end c.words_fit_one_request.ensures
