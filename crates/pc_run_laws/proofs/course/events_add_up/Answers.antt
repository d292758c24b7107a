use Rattle.pc_run_laws.proofs.FlatLemmas.{taken_together, told_together}
use Rattle.pc_run_laws.proofs.course.events_add_up.Goals as goal

pub returns : goal.returns
returns c = record { taken = taken_together; told = told_together }
