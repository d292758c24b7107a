use Rattle.std.proofs.Common.{arith, ap, length}
use Rattle.pc_sheet.specs.Entailment.{cell_sizes}
use Rattle.pc_books.proofs.BookLemmas.{count_is}
use Rattle.pc_books.proofs.book.Book.cell_arg.Goals as goal

pub argument_of-requires-clause-sound : goal.argument_of-requires-clause-sound
argument_of-requires-clause-sound c = c.scheme.ensures.sound

pub argument_of-requires-clause-cell : goal.argument_of-requires-clause-cell
argument_of-requires-clause-cell c =
    let count = count_is c.scheme.result.now c.scheme.ensures.sound.counted in
    let same = ap (λ u. length (cell_sizes u)) c.scheme.ensures.universe in
    omega (arith, count, same, c.requires.cell, c.from.ensures)
