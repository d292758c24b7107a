use Rattle.pc_afresh_laws.proofs.Saying.{readers_same}
use Rattle.pc_afresh_laws.proofs.readers.readers_see_one_display.Goals as goal

pub returns : goal.returns
returns c =
    readers_same c.transcripts_say_the_same.ensures c.texts_have_one_verdict.ensures c.merges_are_lawful.ensures.one c.sheet_has_one_display.ensures c.states_stay_open.ensures.starts c.transcripts_stay_open.ensures
