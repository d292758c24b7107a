use Rattle.pc_elaborate.proofs.AtomTold.{table_sorts_declared}
use Rattle.pc_elaborate.proofs.atoms.table_sorts.Goals as goal

pub returns-clause-declared : goal.returns-clause-declared
returns-clause-declared c = table_sorts_declared c.args.book.now.universe c.well_formed-2.ensures.universe c.args.table c.table_sorts.result.now c.table_sorts.ensures
