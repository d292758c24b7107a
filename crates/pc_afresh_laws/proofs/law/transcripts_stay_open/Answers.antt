use Rattle.pc_afresh_laws.proofs.StayOpen.{transcripts_keep_open}
use Rattle.pc_afresh_laws.proofs.law.transcripts_stay_open.Goals as goal

pub returns : goal.returns
returns c = transcripts_keep_open c.states_stay_open.ensures.answers
