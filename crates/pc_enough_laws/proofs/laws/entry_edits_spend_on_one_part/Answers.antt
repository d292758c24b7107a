use Rattle.pc_enough_laws.proofs.Told.{on_one_part}
use Rattle.pc_enough_laws.proofs.laws.entry_edits_spend_on_one_part.Goals as goal

pub returns : goal.returns
returns c = on_one_part
