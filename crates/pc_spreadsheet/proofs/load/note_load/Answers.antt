use Rattle.pc_spreadsheet.specs.inside.Loading.{not_noted}
use Rattle.pc_spreadsheet.proofs.Loading.{noted_so}
use Rattle.pc_spreadsheet.proofs.load.note_load.Goals as goal

pub returns-in-Ok : goal.returns-in-Ok
returns-in-Ok c = noted_so c.args.book c.args.spending.now c.args.notes.now c.note.new.self c.counts_of.result c.refuse_whole.result c.refuse_whole.ensures c.counts_of.ensures c.in-Ok.ensures.ok

pub returns-in-Err : goal.returns-in-Err
returns-in-Err c = not_noted c.in-Err.ensures.err
