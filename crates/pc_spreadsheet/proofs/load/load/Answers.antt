use Rattle.pc_spreadsheet.proofs.Loading.{opened}
use Rattle.pc_spreadsheet.proofs.load.load.Goals as goal

pub returns-in-Ok : goal.returns-in-Ok
returns-in-Ok c = opened c.args.budget c.args.text.now c.in-Ok.book c.args.notes.now c.open.new.notes c.open.result c.in-Ok.ensures c.open.ensures
