use Rattle.pc_worked_laws.proofs.SpendingsHold.{spendings}
use Rattle.pc_worked_laws.proofs.LogSpendings.{log_spendings}
use Rattle.pc_worked_laws.proofs.worked.spendings_are_worked.Goals as goal

pub returns-clause-counts : goal.returns-clause-counts
returns-clause-counts c = spendings

pub returns-clause-logs : goal.returns-clause-logs
returns-clause-logs c = log_spendings
