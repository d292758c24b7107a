use Rattle.pc_justify_laws.proofs.Entering.{entering_edits}
use Rattle.pc_justify_laws.proofs.edits.entering_edits.Goals as goal

pub returns : goal.returns
returns c = entering_edits
