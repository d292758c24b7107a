use Rattle.pc_worked_laws.proofs.SearchesHold.{changes, clearing_spare, removing_spare, entering_needs, worked_searches}
use Rattle.pc_worked_laws.proofs.worked.searches_are_worked.Goals as goal

pub returns-clause-changes : goal.returns-clause-changes
returns-clause-changes c = changes

pub returns-clause-clearing : goal.returns-clause-clearing
returns-clause-clearing c = clearing_spare

pub returns-clause-removing : goal.returns-clause-removing
returns-clause-removing c = removing_spare

pub returns-clause-entering : goal.returns-clause-entering
returns-clause-entering c = entering_needs

pub returns-clause-worked : goal.returns-clause-worked
returns-clause-worked c = worked_searches
