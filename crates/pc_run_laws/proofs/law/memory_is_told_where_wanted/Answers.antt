use Rattle.pc_run_laws.proofs.Memories.{memories}
use Rattle.pc_run_laws.proofs.law.memory_is_told_where_wanted.Goals as goal

pub returns : goal.returns
returns c = memories
