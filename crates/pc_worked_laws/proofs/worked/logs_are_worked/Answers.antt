use Rattle.pc_worked_laws.proofs.LogsHold.{new_clauses, lawful_logs, small_logs, listing_logs}
use Rattle.pc_worked_laws.proofs.worked.logs_are_worked.Goals as goal

pub returns-clause-new : goal.returns-clause-new
returns-clause-new c = new_clauses

pub returns-clause-lawful : goal.returns-clause-lawful
returns-clause-lawful c = lawful_logs

pub returns-clause-small : goal.returns-clause-small
returns-clause-small c = small_logs

pub returns-clause-listing : goal.returns-clause-listing
returns-clause-listing c = listing_logs
