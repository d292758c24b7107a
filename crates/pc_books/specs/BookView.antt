-- The sheet that a book stands for.
use Rattle.std.specs.Rc.{rc_value}
use Rattle.pc_sheet.specs.Sheet.{Sheet}
use Rattle.pc_sheet.specs.WellFormed.{IsWellFormed}
use Rattle.pc_books.specs.declared.book.Book.TheInside.{Inside}

-- the universe, rules and entries
abbrev pub sheet_of : Inside → Sheet
sheet_of b = record { universe = rc_value b.declared; rules = b.rules; entries = b.entries.items }

-- a well-formed sheet
pub record IsKeptBook (b : Inside) : Type 0 where
  pub well_formed : IsWellFormed (sheet_of b)
