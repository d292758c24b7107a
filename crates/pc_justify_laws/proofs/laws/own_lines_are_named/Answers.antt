use Rattle.pc_justify_laws.proofs.Moved.{own_lines_are_named}
use Rattle.pc_justify_laws.proofs.laws.own_lines_are_named.Goals as goal

pub returns : goal.returns
returns c = own_lines_are_named c.variables_have_their_places.ensures
