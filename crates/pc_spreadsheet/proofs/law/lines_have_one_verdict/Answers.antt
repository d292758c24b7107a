use Rattle.pc_spreadsheet.proofs.Verdicts.{one_verdict}
use Rattle.pc_spreadsheet.proofs.law.lines_have_one_verdict.Goals as goal

pub returns : goal.returns
returns c = one_verdict c.one_reading.ensures.command c.trees_have_one_outcome.ensures
