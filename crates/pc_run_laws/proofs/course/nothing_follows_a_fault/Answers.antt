use Rattle.pc_transcript.specs.Course.{Replay, Edit}
use Rattle.pc_run_laws.proofs.CauseLemmas.{replay_calmly, edit_calmly}
use Rattle.pc_run_laws.proofs.FaultLemmas.{faults_come_last}
use Rattle.pc_run_laws.proofs.course.nothing_follows_a_fault.Goals as goal

pub returns-clause-replay : goal.returns-clause-replay
returns-clause-replay g c = λ budget status notes notes' events run. faults_come_last (Replay (g.M.Machine.IsSheet budget) (g.M.Machine.RefusesText budget) g.M.Machine.Allows notes) (replay_calmly (g.M.Machine.IsSheet budget) (g.M.Machine.RefusesText budget) g.M.Machine.Allows notes) events status notes' run

pub returns-clause-edit : goal.returns-clause-edit
returns-clause-edit g c = λ budget file status notes notes' events run. faults_come_last (Edit (g.M.Machine.IsSheet budget) (g.M.Machine.RefusesText budget) g.M.Machine.Allows file notes) (edit_calmly (g.M.Machine.IsSheet budget) (g.M.Machine.RefusesText budget) g.M.Machine.Allows file notes) events status notes' run
