use Rattle.pc_justify_laws.proofs.Entering.{removing_edits}
use Rattle.pc_justify_laws.proofs.edits.removing_edits.Goals as goal

pub returns : goal.returns
returns c = removing_edits
