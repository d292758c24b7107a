use Rattle.pc_run_laws.proofs.ReadSizes.{enough_by_entries}
use Rattle.pc_run_laws.proofs.asking.entries_say_what_is_enough.Goals as goal

pub returns : goal.returns
returns c = enough_by_entries
