use Rattle.pc_worked_laws.proofs.CountingHolds.{worked_counts, worked_bounds, worked_count_weights}
use Rattle.pc_worked_laws.proofs.worked.counting_is_worked.Goals as goal

pub returns-clause-counts : goal.returns-clause-counts
returns-clause-counts c = worked_counts

pub returns-clause-bounds : goal.returns-clause-bounds
returns-clause-bounds c = worked_bounds

pub returns-clause-weights : goal.returns-clause-weights
returns-clause-weights c = worked_count_weights
