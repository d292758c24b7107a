use Rattle.pc_run_laws.proofs.BackToStatus.{replayed}
use Rattle.pc_run_laws.proofs.course.replays_are_said_by_status.Goals as goal

pub returns : goal.returns
returns g c = λ budget status notes notes' a b ran. replayed (g.M.Machine.IsSheet budget) (g.M.Machine.RefusesText budget) g.M.Machine.Allows notes notes' status a b ran
