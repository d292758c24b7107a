use Rattle.pc_worked_laws.proofs.SpareHolds.{entering, adding, removing, clearing, worked_places, worked_spare, worked_reasons, worked_sessions}
use Rattle.pc_worked_laws.proofs.worked.spare_entries_are_worked.Goals as goal

pub returns-clause-entering : goal.returns-clause-entering
returns-clause-entering c = entering

pub returns-clause-adding : goal.returns-clause-adding
returns-clause-adding c = adding

pub returns-clause-removing : goal.returns-clause-removing
returns-clause-removing c = removing

pub returns-clause-clearing : goal.returns-clause-clearing
returns-clause-clearing c = clearing

pub returns-clause-places : goal.returns-clause-places
returns-clause-places c = worked_places

pub returns-clause-spare : goal.returns-clause-spare
returns-clause-spare c = worked_spare

pub returns-clause-reasons : goal.returns-clause-reasons
returns-clause-reasons c = worked_reasons

pub returns-clause-sessions : goal.returns-clause-sessions
returns-clause-sessions c = worked_sessions
