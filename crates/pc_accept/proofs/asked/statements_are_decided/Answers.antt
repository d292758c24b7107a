use Rattle.pc_accept.proofs.AskedHold.{statements_are_decided}
use Rattle.pc_accept.proofs.asked.statements_are_decided.Goals as goal

pub returns : goal.returns
returns c = statements_are_decided
