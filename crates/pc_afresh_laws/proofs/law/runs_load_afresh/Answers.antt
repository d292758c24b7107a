use Rattle.pc_afresh_laws.proofs.LoadAfresh.{runs_load}
use Rattle.pc_afresh_laws.proofs.law.runs_load_afresh.Goals as goal

pub returns : goal.returns
returns c = runs_load c.states_stay_open.ensures.starts c.transcripts_stay_open.ensures c.dumps_start_again.ensures c.loaded_afresh_shows_the_same.ensures
