use Rattle.pc_worked_laws.proofs.LargestSetsHold.{nothing_kept, four}
use Rattle.pc_worked_laws.proofs.worked.largest_sets_are_worked.Goals as goal

pub returns-clause-nothing_kept : goal.returns-clause-nothing_kept
returns-clause-nothing_kept c = nothing_kept

pub returns-clause-four_sets : goal.returns-clause-four_sets
returns-clause-four_sets c = four
