use Rattle.pc_judge.specs.Course.{CheckOf}
use Rattle.pc_words.specs.Words.{checks, demonstrates}
use Rattle.pc_demo.specs.Course.{Demo}
use Rattle.pc_replay.specs.Course.{Course}
use Rattle.pc_run_laws.proofs.CauseLemmas.{has_causes}
use Rattle.pc_run_laws.proofs.FaultLemmas.{faults_come_last}
use Rattle.pc_run_laws.proofs.Calm.{check_calmly, mode_calmly, course_calmly}
use Rattle.pc_run_laws.proofs.statuses.faults_end_runs.Goals as goal

pub returns-clause-causes : goal.returns-clause-causes
returns-clause-causes c = λ words status notes notes' before after runs. has_causes (Course words notes) (course_calmly words notes) runs.0 status notes' before after runs.2

pub returns-clause-last : goal.returns-clause-last
returns-clause-last c = λ words status notes notes' before after runs. faults_come_last (Course words notes) (course_calmly words notes) runs.2.events status notes' runs.2.run

pub returns-clause-check : goal.returns-clause-check
returns-clause-check c = λ file most status before after ran. has_causes (CheckOf file) (λ events stage u h. check_calmly file events stage h) most status tt before after ran

pub returns-clause-demo : goal.returns-clause-demo
returns-clause-demo c = λ blocks budget most status notes notes' before after ran. has_causes (Demo blocks budget notes) (λ events stage new h. mode_calmly (demonstrates blocks) budget notes events stage new h) most status notes' before after ran
