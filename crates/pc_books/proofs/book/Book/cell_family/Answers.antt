use Rattle.std.proofs.Common.{arith, ap, length}
use Rattle.std.proofs.lemmas.List.{length-map}
use Rattle.pc_sheet.specs.Entailment.{cell_sizes}
use Rattle.pc_books.specs.SchemeView.{family_of}
use Rattle.pc_books.proofs.BookLemmas.{count_is}
use Rattle.pc_books.proofs.book.Book.cell_family.Goals as goal

pub family_of_cell-requires-clause-sound : goal.family_of_cell-requires-clause-sound
family_of_cell-requires-clause-sound c = c.scheme.ensures.sound

pub family_of_cell-requires-clause-cell : goal.family_of_cell-requires-clause-cell
family_of_cell-requires-clause-cell c =
    let count = count_is c.scheme.result.now c.scheme.ensures.sound.counted in
    let same = ap (λ u. length (cell_sizes u)) c.scheme.ensures.universe in
    omega (arith, count, same, c.requires, c.from.ensures)

pub family_of_cell-requires-clause-few : goal.family_of_cell-requires-clause-few
family_of_cell-requires-clause-few c = omega (arith, c.scheme.ensures.formed.family_limit, length-map c.scheme.result.now.families.items family_of)
