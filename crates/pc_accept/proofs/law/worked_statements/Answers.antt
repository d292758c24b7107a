use Rattle.pc_accept.proofs.WorkedHold.{worked_paths, worked_counters, worked_reads, worked_limits, worked_ranges}
use Rattle.pc_accept.proofs.law.worked_statements.Goals as goal

pub returns-clause-paths : goal.returns-clause-paths
returns-clause-paths c = worked_paths

pub returns-clause-counters : goal.returns-clause-counters
returns-clause-counters c = worked_counters

pub returns-clause-reads : goal.returns-clause-reads
returns-clause-reads c = worked_reads

pub returns-clause-limits : goal.returns-clause-limits
returns-clause-limits c = worked_limits

pub returns-clause-ranges : goal.returns-clause-ranges
returns-clause-ranges c = worked_ranges
