use Rattle.pc_worked_laws.proofs.AxiomsHold.{worked_kinds, worked_axioms}
use Rattle.pc_worked_laws.proofs.worked.axioms_are_worked.Goals as goal

pub returns-clause-kinds : goal.returns-clause-kinds
returns-clause-kinds c = worked_kinds

pub returns-clause-axioms : goal.returns-clause-axioms
returns-clause-axioms c = worked_axioms
