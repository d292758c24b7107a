use Rattle.pc_worked_laws.proofs.GuardsHold.{worked_guards, worked_watches, worked_sure, worked_kept, worked_justified}
use Rattle.pc_worked_laws.proofs.worked.watched_trails_are_worked.Goals as goal

pub returns-clause-guards : goal.returns-clause-guards
returns-clause-guards c = worked_guards

pub returns-clause-watches : goal.returns-clause-watches
returns-clause-watches c = worked_watches

pub returns-clause-sure : goal.returns-clause-sure
returns-clause-sure c = worked_sure

pub returns-clause-kept : goal.returns-clause-kept
returns-clause-kept c = worked_kept

pub returns-clause-justified : goal.returns-clause-justified
returns-clause-justified c = worked_justified
