use Rattle.pc_enough_laws.proofs.OfPart.{parts_spend_less}
use Rattle.pc_enough_laws.proofs.laws.parts_spend_less.Goals as goal

pub returns : goal.returns
returns c = parts_spend_less
