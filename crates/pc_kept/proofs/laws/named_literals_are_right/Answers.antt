use Rattle.pc_kept.proofs.Polar.{named_literals_are_right}
use Rattle.pc_kept.proofs.laws.named_literals_are_right.Goals as goal

pub returns : goal.returns
returns c = named_literals_are_right
