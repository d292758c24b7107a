use Rattle.pc_sortcheck.proofs.Formed.{sheets_formed}
use Rattle.pc_sortcheck.proofs.law.sheets_are_well_formed.Goals as goal

pub returns : goal.returns
returns c = sheets_formed
