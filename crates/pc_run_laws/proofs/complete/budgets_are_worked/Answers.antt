use Rattle.pc_run_laws.proofs.WorkedBudgets.{budgets_worked, no_verdict_spent}
use Rattle.pc_run_laws.proofs.complete.budgets_are_worked.Goals as goal

pub returns-clause-numbers : goal.returns-clause-numbers
returns-clause-numbers c = budgets_worked

pub returns-clause-never : goal.returns-clause-never
returns-clause-never c = no_verdict_spent
