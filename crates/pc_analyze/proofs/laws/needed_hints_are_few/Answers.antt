use Rattle.pc_analyze.proofs.FewLemmas.{needed_hints_are_few}
use Rattle.pc_analyze.proofs.laws.needed_hints_are_few.Goals as goal

pub returns : goal.returns
returns c = needed_hints_are_few
