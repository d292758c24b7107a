use Rattle.pc_kept.proofs.CountersSettled.{counters_are_settled}
use Rattle.pc_kept.proofs.laws.counters_are_settled.Goals as goal

pub returns : goal.returns
returns c = counters_are_settled
