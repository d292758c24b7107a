use Rattle.pc_kept.proofs.KeptSearched.{kept_parts_are_searched}
use Rattle.pc_kept.proofs.laws.kept_parts_are_searched.Goals as goal

pub returns : goal.returns
returns c = kept_parts_are_searched
