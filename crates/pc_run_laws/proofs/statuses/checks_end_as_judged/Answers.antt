use Rattle.pc_run_laws.proofs.Deciding.{decided}
use Rattle.pc_run_laws.proofs.Outcomes.{one_sheet, one_told}
use Rattle.pc_run_laws.proofs.statuses.checks_end_as_judged.Goals as goal

pub returns : goal.returns
returns c = decided c.words_fit_one_request.ensures (one_sheet c.texts_have_one_outcome.ensures) (one_told c.sheets_are_well_formed.ensures c.judgements_are_one.ensures)
