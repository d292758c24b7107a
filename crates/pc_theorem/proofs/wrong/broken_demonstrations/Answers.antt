use Rattle.pc_theorem.proofs.WrongJournals.{broken_demonstrations}
use Rattle.pc_theorem.proofs.wrong.broken_demonstrations.Goals as goal

pub returns : goal.returns
returns c = broken_demonstrations
