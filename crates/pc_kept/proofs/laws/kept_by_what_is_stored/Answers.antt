use Rattle.pc_kept.proofs.FromStored.{kept_by_what_is_stored}
use Rattle.pc_kept.proofs.laws.kept_by_what_is_stored.Goals as goal

pub returns : goal.returns
returns c = kept_by_what_is_stored
