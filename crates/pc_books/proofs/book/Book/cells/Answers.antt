use Rattle.std.proofs.Common.{◌∙◌, ap, length}
use Rattle.pc_sheet.specs.Entailment.{cell_sizes}
use Rattle.pc_books.proofs.BookLemmas.{count_is}
use Rattle.pc_books.proofs.book.Book.cells.Goals as goal

pub returns-clause-exact : goal.returns-clause-exact
returns-clause-exact c = count_is c.scheme.result.now c.scheme.ensures.sound.counted ∙ ap (λ u. length (cell_sizes u)) c.scheme.ensures.universe

pub returns-clause-few : goal.returns-clause-few
returns-clause-few c = c.scheme.ensures.sound.few_cells
