-- What is enough, computed.
use Rattle.std.proofs.Common.{refl}
use Rattle.pc_worked_laws.specs.Budgets.{WorkedPartBudgets}

pub worked_part_budgets : WorkedPartBudgets
worked_part_budgets = record { of_first = refl; of_second = refl; edit_of_first = refl; edit_of_second = refl; load = refl; as_one = refl }
