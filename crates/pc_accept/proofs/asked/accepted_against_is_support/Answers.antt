use Rattle.pc_accept.proofs.AskedHold.{accepted_against_is_support}
use Rattle.pc_accept.proofs.asked.accepted_against_is_support.Goals as goal

pub returns : goal.returns
returns c = accepted_against_is_support
