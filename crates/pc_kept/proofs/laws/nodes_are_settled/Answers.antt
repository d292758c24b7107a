use Rattle.pc_kept.proofs.Settled.{nodes_are_settled}
use Rattle.pc_kept.proofs.laws.nodes_are_settled.Goals as goal

pub returns : goal.returns
returns c = nodes_are_settled
