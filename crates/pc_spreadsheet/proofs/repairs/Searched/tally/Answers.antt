use Rattle.std.proofs.Common.{refl}
use Rattle.pc_spreadsheet.proofs.Proving.{none_is_spent}
use Rattle.pc_spreadsheet.proofs.repairs.Searched.tally.Goals as goal

pub returns : goal.returns
returns c = none_is_spent _ _ _ refl refl refl refl
