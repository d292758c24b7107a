use Rattle.pc_run_laws.proofs.Sentences.{done, some_refused}
use Rattle.pc_run_laws.proofs.statuses.all_lines_are_answered.Goals as goal

pub returns-clause-done : goal.returns-clause-done
returns-clause-done c = done

pub returns-clause-some_refused : goal.returns-clause-some_refused
returns-clause-some_refused c = some_refused
