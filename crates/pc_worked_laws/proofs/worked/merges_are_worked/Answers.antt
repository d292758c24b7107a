use Rattle.pc_worked_laws.proofs.MergesHold.{worked_journals, worked_merges, worked_differences}
use Rattle.pc_worked_laws.proofs.worked.merges_are_worked.Goals as goal

pub returns-clause-journals : goal.returns-clause-journals
returns-clause-journals c = worked_journals

pub returns-clause-merges : goal.returns-clause-merges
returns-clause-merges c = worked_merges

pub returns-clause-differences : goal.returns-clause-differences
returns-clause-differences c = worked_differences
