use Rattle.pc_refusals.proofs.EventLemmas.{happened-append}
use Rattle.pc_refusals.proofs.RunLemmas.{tells_last}
use Rattle.pc_refusals.proofs.laws.runs_are_of_events.Goals as goal

pub returns : goal.returns
returns c = happened-append
