use Rattle.pc_accept.proofs.AskedHold.{against_is_support}
use Rattle.pc_accept.proofs.asked.against_is_support.Goals as goal

pub returns : goal.returns
returns c = against_is_support
