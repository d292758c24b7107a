use Rattle.pc_run_laws.proofs.Completing.{transcripts_in_full}
use Rattle.pc_run_laws.proofs.complete.transcripts_are_in_full.Goals as goal

pub returns : goal.returns
returns c = transcripts_in_full c.lines_are_answered_in_full.ensures c.states_are_well_formed.ensures.answers
