use Rattle.pc_run_laws.proofs.Completing.{refused_in_full, opened_of_enough}
use Rattle.pc_run_laws.proofs.complete.texts_are_refused_in_full.Goals as goal

pub returns-clause-judged : goal.returns-clause-judged
returns-clause-judged c = refused_in_full c.sheets_are_well_formed.ensures

pub returns-clause-opened : goal.returns-clause-opened
returns-clause-opened c = opened_of_enough c.sheets_are_well_formed.ensures c.texts_have_one_verdict.ensures
