use Rattle.pc_run_laws.proofs.ReadSizes.{sizes_exist}
use Rattle.pc_run_laws.proofs.asking.read_sizes_exist.Goals as goal

pub returns : goal.returns
returns c = sizes_exist
