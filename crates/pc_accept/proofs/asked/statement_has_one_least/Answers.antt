use Rattle.pc_accept.proofs.AskedHold.{statement_has_one_least}
use Rattle.pc_accept.proofs.asked.statement_has_one_least.Goals as goal

pub returns : goal.returns
returns c = statement_has_one_least
