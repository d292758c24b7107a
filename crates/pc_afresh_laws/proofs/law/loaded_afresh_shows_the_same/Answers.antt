use Rattle.pc_afresh_laws.proofs.LoadAfresh.{afresh_shows}
use Rattle.pc_afresh_laws.proofs.law.loaded_afresh_shows_the_same.Goals as goal

pub returns : goal.returns
returns c = afresh_shows c.sheet_has_one_display.ensures c.dumps_start_again.ensures
