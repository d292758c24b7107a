use Rattle.pc_run_laws.proofs.Counting.{told_bounded}
use Rattle.pc_run_laws.proofs.counts.told_counts_are_bounded.Goals as goal

pub returns : goal.returns
returns c = told_bounded c.cells_are_numbered_in_order.ensures c.sheets_are_well_formed.ensures
