use Rattle.pc_justify_laws.proofs.Entering.{adding_edits}
use Rattle.pc_justify_laws.proofs.edits.adding_edits.Goals as goal

pub returns : goal.returns
returns c = adding_edits
