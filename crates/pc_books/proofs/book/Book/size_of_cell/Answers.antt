use Rattle.pc_books.proofs.book.Book.size_of_cell.Goals as goal

pub size_at-requires : goal.size_at-requires
size_at-requires c = c.scheme.ensures.sound
