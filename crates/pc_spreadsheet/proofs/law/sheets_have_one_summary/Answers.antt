use Rattle.pc_spreadsheet.proofs.Summing.{one_summary}
use Rattle.pc_spreadsheet.proofs.law.sheets_have_one_summary.Goals as goal

pub returns : goal.returns
returns c = one_summary
