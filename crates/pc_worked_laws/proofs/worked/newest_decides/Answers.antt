use Rattle.pc_worked_laws.proofs.NewestHolds.{newest_decides}
use Rattle.pc_worked_laws.proofs.worked.newest_decides.Goals as goal

pub returns : goal.returns
returns c = newest_decides
