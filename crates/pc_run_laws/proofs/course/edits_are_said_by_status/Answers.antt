use Rattle.pc_run_laws.proofs.EditsToStatus.{edited}
use Rattle.pc_run_laws.proofs.course.edits_are_said_by_status.Goals as goal

pub returns : goal.returns
returns g c = λ budget file status notes notes' a b ran. edited (g.M.Machine.IsSheet budget) (g.M.Machine.RefusesText budget) g.M.Machine.Allows file notes notes' status a b ran
