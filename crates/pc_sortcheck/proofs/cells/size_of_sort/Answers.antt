use Rattle.std.proofs.Common.{arith}
use Rattle.pc_sortcheck.proofs.DeclaredFamilies.{size_few}
use Rattle.pc_sortcheck.proofs.cells.size_of_sort.Goals as goal

pub returns-clause-few : goal.returns-clause-few
returns-clause-few c = omega (arith, size_few c.args.book.now.universe c.keeps_form.ensures.universe c.args.sort c.requires, c.size_of.ensures.exact)
