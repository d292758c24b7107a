use Rattle.pc_books.proofs.book.Book.size_of.Goals as goal

pub size_of-requires : goal.size_of-requires
size_of-requires c = c.scheme.ensures.sound
