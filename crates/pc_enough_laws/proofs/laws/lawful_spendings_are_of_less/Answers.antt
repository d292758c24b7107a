use Rattle.pc_enough_laws.proofs.Summed.{spendings_of_less}
use Rattle.pc_enough_laws.proofs.laws.lawful_spendings_are_of_less.Goals as goal

pub returns : goal.returns
returns c = spendings_of_less
