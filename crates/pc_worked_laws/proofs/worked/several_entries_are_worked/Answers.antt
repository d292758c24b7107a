use Rattle.pc_worked_laws.proofs.SeveralHolds.{worked_views, worked_edits, worked_limit}
use Rattle.pc_worked_laws.proofs.worked.several_entries_are_worked.Goals as goal

pub returns-clause-views : goal.returns-clause-views
returns-clause-views c = worked_views

pub returns-clause-edits : goal.returns-clause-edits
returns-clause-edits c = worked_edits

pub returns-clause-limit : goal.returns-clause-limit
returns-clause-limit c = worked_limit
