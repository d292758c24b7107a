use Rattle.pc_afresh_laws.proofs.Saying.{answers_same}
use Rattle.pc_afresh_laws.proofs.readers.answers_say_the_same.Goals as goal

pub returns : goal.returns
returns c = answers_same c.lines_have_one_verdict.ensures c.sheet_has_one_display.ensures c.listings_are_one.ensures
