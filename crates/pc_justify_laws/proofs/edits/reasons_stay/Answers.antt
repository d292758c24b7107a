use Rattle.pc_justify_laws.proofs.Staying.{reasons_stay}
use Rattle.pc_justify_laws.proofs.edits.reasons_stay.Goals as goal

pub returns : goal.returns
returns c = reasons_stay
