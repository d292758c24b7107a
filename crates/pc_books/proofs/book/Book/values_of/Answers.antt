use Rattle.std.proofs.Common.{arith, ap, length}
use Rattle.pc_sheet.specs.Entailment.{cell_sizes}
use Rattle.pc_books.proofs.BookLemmas.{count_is}
use Rattle.pc_books.proofs.book.Book.values_of.Goals as goal

pub values_of_cell-requires-clause-sound : goal.values_of_cell-requires-clause-sound
values_of_cell-requires-clause-sound c = c.scheme.ensures.sound

pub values_of_cell-requires-clause-cell : goal.values_of_cell-requires-clause-cell
values_of_cell-requires-clause-cell c =
    let count = count_is c.scheme.result.now c.scheme.ensures.sound.counted in
    let same = ap (λ u. length (cell_sizes u)) c.scheme.ensures.universe in
    omega (arith, count, same, c.requires, c.from.ensures)
