use Rattle.pc_justify_laws.proofs.OtherParts.{other_parts_stay}
use Rattle.pc_justify_laws.proofs.edits.other_parts_stay.Goals as goal

pub returns : goal.returns
returns c = other_parts_stay
