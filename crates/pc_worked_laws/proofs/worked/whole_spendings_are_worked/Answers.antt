use Rattle.pc_worked_laws.proofs.WholeSpendingsHold.{whole_spendings}
use Rattle.pc_worked_laws.proofs.worked.whole_spendings_are_worked.Goals as goal

pub returns : goal.returns
returns c = whole_spendings
