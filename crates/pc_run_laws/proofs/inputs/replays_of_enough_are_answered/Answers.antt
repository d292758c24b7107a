use Rattle.pc_run_laws.proofs.Replaying.{replays_end}
use Rattle.pc_run_laws.proofs.inputs.replays_of_enough_are_answered.Goals as goal

pub returns : goal.returns
returns c = replays_end c.words_fit_one_request.ensures c.inputs_have_one_sheet_part.ensures c.texts_are_refused_in_full.ensures.opened c.faultless_runs_are_answered.ensures
