use Rattle.pc_worked_laws.proofs.BudgetsHold.{worked_part_budgets}
use Rattle.pc_worked_laws.proofs.worked.budgets_are_worked.Goals as goal

pub returns : goal.returns
returns c = worked_part_budgets
