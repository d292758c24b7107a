use Rattle.std.proofs.Common.{arith, ap, length}
use Rattle.pc_sheet.specs.Entailment.{cell_sizes}
use Rattle.pc_books.proofs.BookLemmas.{count_is}
use Rattle.pc_books.proofs.book.Book.cell_at.Goals as goal

pub cell_at-requires : goal.cell_at-requires
cell_at-requires c = record { sound = c.scheme.ensures.sound }

pub overflow_cast-result : goal.overflow_cast-result
overflow_cast-result c =
    let sound = c.scheme.ensures.sound in
    omega (arith, c.in-Some.ensures.within, sound.few_cells)

pub returns-in-Some-clause-within : goal.returns-in-Some-clause-within
returns-in-Some-clause-within c =
    let count = count_is c.scheme.result.now c.scheme.ensures.sound.counted in
    let same = ap (λ u. length (cell_sizes u)) c.scheme.ensures.universe in
    omega (arith, c.in-Some.ensures.within, count, same)
