use Rattle.pc_judge.specs.Course.{CheckOf}
use Rattle.pc_demo.specs.Course.{Demo}
use Rattle.pc_run_laws.proofs.CourseLimits.{exactly}
use Rattle.pc_run_laws.proofs.Sentences.{too_long}
use Rattle.pc_run_laws.proofs.Limits.{check_stays, demo_stays, runs_exactly}
use Rattle.pc_run_laws.proofs.statuses.limits_are_passed.Goals as goal

pub returns-clause-exactly : goal.returns-clause-exactly
returns-clause-exactly c = λ words notes. runs_exactly c.words_fit_one_request.ensures words notes

pub returns-clause-told : goal.returns-clause-told
returns-clause-told c = too_long

pub returns-clause-check : goal.returns-clause-check
returns-clause-check c = λ file. exactly (CheckOf file) (check_stays file)

pub returns-clause-demo : goal.returns-clause-demo
returns-clause-demo c = λ blocks budget notes. exactly (Demo blocks budget notes) (demo_stays blocks budget notes)
