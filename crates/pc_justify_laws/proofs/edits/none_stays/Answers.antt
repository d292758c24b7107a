use Rattle.pc_justify_laws.proofs.Staying.{none_stays}
use Rattle.pc_justify_laws.proofs.edits.none_stays.Goals as goal

pub returns : goal.returns
returns c = none_stays
