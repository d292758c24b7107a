use Rattle.pc_spreadsheet.specs.Commands.{as_refusal, as_memory}
use Rattle.pc_spreadsheet.proofs.refusal.refuse.Goals as goal

pub returns-in-Some : goal.returns-in-Some
returns-in-Some c = as_refusal c.in-Some.refusal c.in-Some.ensures

pub returns-in-None : goal.returns-in-None
returns-in-None c = as_memory c.in-None.ensures
