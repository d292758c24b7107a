use Rattle.pc_run_laws.proofs.Opening.{opened_runs_end}
use Rattle.pc_run_laws.proofs.complete.runs_of_enough_are_answered.Goals as goal

pub returns : goal.returns
returns c = opened_runs_end c.words_fit_one_request.ensures c.texts_are_refused_in_full.ensures.opened c.faultless_runs_are_answered.ensures
