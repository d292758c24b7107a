use Rattle.pc_worked_laws.proofs.AskedHolds.{worked_formulas, worked_clashes}
use Rattle.pc_worked_laws.proofs.worked.formulas_are_worked.Goals as goal

pub returns-clause-formulas : goal.returns-clause-formulas
returns-clause-formulas c = worked_formulas

pub returns-clause-clashes : goal.returns-clause-clashes
returns-clause-clashes c = worked_clashes
