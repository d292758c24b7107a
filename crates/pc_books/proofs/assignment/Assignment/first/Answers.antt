use Rattle.std.proofs.Common.{rules, sym, subst}
use Rattle.pc_sheet.specs.Entailment.{AreWithin, cell_sizes}
use Rattle.pc_books.proofs.FirstLemmas.{first_within}
use Rattle.pc_books.proofs.assignment.Assignment.first.Goals as goal

pub returns-clause-within : goal.returns-clause-within
returns-clause-within c =
    subst (AreWithin (cell_sizes c.args.book.now.universe)) (sym (search rules)) (first_within c.args.book.now.universe c.well_formed-2.ensures.universe)
