use Rattle.pc_worked_laws.proofs.RowsHold.{rows}
use Rattle.pc_worked_laws.proofs.worked.rows_are_worked.Goals as goal

pub returns : goal.returns
returns c = rows
