use Rattle.pc_worked_laws.proofs.PartSheetsHold.{part_sheets}
use Rattle.pc_worked_laws.proofs.worked.part_sheets_are_worked.Goals as goal

pub returns : goal.returns
returns c = part_sheets
