use Rattle.pc_spreadsheet.proofs.SheetVerdicts.{one_sheet_verdict}
use Rattle.pc_spreadsheet.proofs.law.texts_have_one_verdict.Goals as goal

pub returns : goal.returns
returns c = one_sheet_verdict c.texts_have_one_outcome.ensures
