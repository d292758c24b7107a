use Rattle.pc_justify_laws.proofs.Edited.{edited_reasons_are_right}
use Rattle.pc_justify_laws.proofs.edits.edited_reasons_are_right.Goals as goal

pub returns : goal.returns
returns c = edited_reasons_are_right
