use Rattle.pc_sheet.proofs.Counters.{placed}
use Rattle.pc_sheet.proofs.laws.counters_are_placed.Goals as goal

pub returns : goal.returns
returns c = placed
