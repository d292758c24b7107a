use Rattle.pc_canonical_laws.proofs.Sheets.{sheet_reads_back}
use Rattle.pc_canonical_laws.proofs.law.sheets_read_back.Goals as goal

pub returns : goal.returns
returns c = sheet_reads_back
