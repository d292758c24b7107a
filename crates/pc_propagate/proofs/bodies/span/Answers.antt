use Rattle.pc_lits.proofs.RowsLemmas.{row_bounds}
use Rattle.pc_propagate.proofs.bodies.span.Goals as goal

pub returns-clause-rises : goal.returns-clause-rises
returns-clause-rises c = rw c.end_of.ensures (row_bounds c.args.len 0 c.args.ends.now c.args.number c.requires.ends c.requires.number).0

pub returns-clause-within : goal.returns-clause-within
returns-clause-within c = (row_bounds c.args.len 0 c.args.ends.now c.args.number c.requires.ends c.requires.number).1
