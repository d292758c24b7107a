use Rattle.pc_justify_laws.proofs.Entering.{clearing_edits}
use Rattle.pc_justify_laws.proofs.edits.clearing_edits.Goals as goal

pub returns : goal.returns
returns c = clearing_edits
