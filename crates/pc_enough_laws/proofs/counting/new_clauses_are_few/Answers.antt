use Rattle.pc_enough_laws.proofs.Counted.{new_clauses_few}
use Rattle.pc_enough_laws.proofs.counting.new_clauses_are_few.Goals as goal

pub returns : goal.returns
returns c = new_clauses_few
