use Rattle.pc_run_laws.proofs.Running.{runs_to}
use Rattle.pc_run_laws.proofs.complete.runs_are_in_full.Goals as goal

pub returns : goal.returns
returns c = runs_to c.lines_are_answered_in_full.ensures c.transcripts_are_in_full.ensures c.states_are_well_formed.ensures.answers c.texts_are_refused_in_full.ensures.judged c.states_are_well_formed.ensures.starts
