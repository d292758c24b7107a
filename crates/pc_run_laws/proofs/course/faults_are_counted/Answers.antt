use Rattle.pc_transcript.specs.Course.{Replay, Edit}
use Rattle.pc_journal.specs.Course.{Merge, Posts}
use Rattle.pc_run_laws.proofs.CauseLemmas.{has_causes, replay_calmly, edit_calmly}
use Rattle.pc_run_laws.proofs.JournalCauses.{merge_calmly, posts_calmly}
use Rattle.pc_run_laws.proofs.course.faults_are_counted.Goals as goal

pub returns-clause-replay : goal.returns-clause-replay
returns-clause-replay g c = λ budget most status notes notes' a b ran. has_causes (Replay (g.M.Machine.IsSheet budget) (g.M.Machine.RefusesText budget) g.M.Machine.Allows notes) (replay_calmly (g.M.Machine.IsSheet budget) (g.M.Machine.RefusesText budget) g.M.Machine.Allows notes) most status notes' a b ran

pub returns-clause-edit : goal.returns-clause-edit
returns-clause-edit g c = λ budget most file status notes notes' a b ran. has_causes (Edit (g.M.Machine.IsSheet budget) (g.M.Machine.RefusesText budget) g.M.Machine.Allows file notes) (edit_calmly (g.M.Machine.IsSheet budget) (g.M.Machine.RefusesText budget) g.M.Machine.Allows file notes) most status notes' a b ran

pub returns-clause-merge : goal.returns-clause-merge
returns-clause-merge g c = λ most file status a b ran. has_causes (Merge file) (merge_calmly file) most status tt a b ran

pub returns-clause-posts : goal.returns-clause-posts
returns-clause-posts g c = λ budget most file status notes notes' a b ran. has_causes (Posts (g.M.Machine.IsSheet budget) (g.M.Machine.RefusesText budget) g.M.Machine.Allows file notes) (posts_calmly (g.M.Machine.IsSheet budget) (g.M.Machine.RefusesText budget) g.M.Machine.Allows file notes) most status notes' a b ran
