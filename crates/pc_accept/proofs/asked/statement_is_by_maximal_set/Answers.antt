use Rattle.pc_accept.proofs.AskedHold.{statement_is_by_maximal_set}
use Rattle.pc_accept.proofs.asked.statement_is_by_maximal_set.Goals as goal

pub returns : goal.returns
returns c = statement_is_by_maximal_set
