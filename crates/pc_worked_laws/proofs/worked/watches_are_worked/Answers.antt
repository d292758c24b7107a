use Rattle.pc_worked_laws.proofs.WatchesHold.{worked_known_watches, worked_lists, worked_additions, worked_shifts}
use Rattle.pc_worked_laws.proofs.worked.watches_are_worked.Goals as goal

pub returns-clause-known : goal.returns-clause-known
returns-clause-known c = worked_known_watches

pub returns-clause-listed : goal.returns-clause-listed
returns-clause-listed c = worked_lists

pub returns-clause-added : goal.returns-clause-added
returns-clause-added c = worked_additions

pub returns-clause-shifted : goal.returns-clause-shifted
returns-clause-shifted c = worked_shifts
