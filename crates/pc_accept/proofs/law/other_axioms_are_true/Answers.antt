use Rattle.pc_accept.proofs.AxiomsTrue.{other_axioms_true}
use Rattle.pc_accept.proofs.law.other_axioms_are_true.Goals as goal

pub returns : goal.returns
returns c = other_axioms_true
