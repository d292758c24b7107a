use Rattle.std.proofs.Common.{arith}
use Rattle.pc_books.proofs.FewEntries.{entries_few}
use Rattle.pc_books.proofs.laws.few_entries.Goals as goal

pub returns : goal.returns
returns c =
    let sheet = c.args.book.now in
    let few = entries_few sheet.universe sheet.entries c.entries.ensures.well_formed.entries in
    let cells = c.cells.ensures.few in
    let exact = c.cells.ensures.exact in
    omega (arith, few, cells, exact)
