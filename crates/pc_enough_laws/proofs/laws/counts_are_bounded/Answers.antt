use Rattle.pc_enough_laws.proofs.Told.{counts_bounded}
use Rattle.pc_enough_laws.proofs.laws.counts_are_bounded.Goals as goal

pub returns : goal.returns
returns c = counts_bounded
