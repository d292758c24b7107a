use Rattle.pc_transcript.specs.Course.{Replay, Edit}
use Rattle.pc_journal.specs.Course.{Merge, Posts}
use Rattle.pc_run_laws.proofs.CourseLimits.{exactly}
use Rattle.pc_run_laws.proofs.Within.{replay_stays, edit_stays}
use Rattle.pc_run_laws.proofs.JournalLimits.{merge_stays, posts_stay}
use Rattle.pc_run_laws.proofs.course.limits_end_runs.Goals as goal

pub returns-clause-replay : goal.returns-clause-replay
returns-clause-replay g c = λ budget notes. exactly (Replay (g.M.Machine.IsSheet budget) (g.M.Machine.RefusesText budget) g.M.Machine.Allows notes) (replay_stays (g.M.Machine.IsSheet budget) (g.M.Machine.RefusesText budget) g.M.Machine.Allows notes)

pub returns-clause-edit : goal.returns-clause-edit
returns-clause-edit g c = λ budget file notes. exactly (Edit (g.M.Machine.IsSheet budget) (g.M.Machine.RefusesText budget) g.M.Machine.Allows file notes) (edit_stays (g.M.Machine.IsSheet budget) (g.M.Machine.RefusesText budget) g.M.Machine.Allows file notes)

pub returns-clause-merge : goal.returns-clause-merge
returns-clause-merge g c = λ file. exactly (Merge file) (merge_stays file)

pub returns-clause-posts : goal.returns-clause-posts
returns-clause-posts g c = λ budget file notes. exactly (Posts (g.M.Machine.IsSheet budget) (g.M.Machine.RefusesText budget) g.M.Machine.Allows file notes) (posts_stay (g.M.Machine.IsSheet budget) (g.M.Machine.RefusesText budget) g.M.Machine.Allows file notes)
