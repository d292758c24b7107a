use Rattle.pc_justify_laws.proofs.Named.{named_lines_derive}
use Rattle.pc_justify_laws.proofs.laws.named_lines_derive.Goals as goal

pub returns : goal.returns
returns c = named_lines_derive c.clauses_are_of_axioms.ensures c.symbols_are_variables.ensures c.variables_have_their_places.ensures
