use Rattle.pc_afresh_laws.proofs.Saying.{transcripts_same}
use Rattle.pc_afresh_laws.proofs.readers.transcripts_say_the_same.Goals as goal

pub returns : goal.returns
returns c = transcripts_same c.answers_say_the_same.ensures c.states_are_well_formed.ensures.answers
