use Rattle.pc_spreadsheet.specs.inside.Repairs.{noted, not_noted}
use Rattle.pc_spreadsheet.proofs.spending.note_whole.Goals as goal

pub returns-in-Ok : goal.returns-in-Ok
returns-in-Ok c = noted c.counts_of.result c.counts_of.ensures c.in-Ok.ensures.ok

pub returns-in-Err : goal.returns-in-Err
returns-in-Err c = not_noted c.in-Err.ensures.err
