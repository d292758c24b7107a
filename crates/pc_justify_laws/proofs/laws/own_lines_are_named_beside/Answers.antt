use Rattle.pc_justify_laws.proofs.Moved.{own_lines_are_named_beside}
use Rattle.pc_justify_laws.proofs.laws.own_lines_are_named_beside.Goals as goal

pub returns : goal.returns
returns c = own_lines_are_named_beside c.variables_have_their_places.ensures
