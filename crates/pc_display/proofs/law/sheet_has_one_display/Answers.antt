use Rattle.pc_display.proofs.SameDisplay.{one_display}
use Rattle.pc_display.proofs.law.sheet_has_one_display.Goals as goal

pub returns : goal.returns
returns c = one_display
