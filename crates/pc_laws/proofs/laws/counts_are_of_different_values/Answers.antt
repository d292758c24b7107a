use Rattle.pc_laws.proofs.Counts.{different_values}
use Rattle.pc_laws.proofs.laws.counts_are_of_different_values.Goals as goal

pub returns : goal.returns
returns c = different_values
