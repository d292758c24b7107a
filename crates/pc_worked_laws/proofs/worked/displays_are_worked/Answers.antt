use Rattle.pc_worked_laws.proofs.ShownHolds.{worked_newer_views}
use Rattle.pc_worked_laws.proofs.worked.displays_are_worked.Goals as goal

pub returns : goal.returns
returns c = worked_newer_views
