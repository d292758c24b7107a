use Rattle.std.proofs.Common.{◌≡◌, map, take}
use Rattle.pc_books.specs.SchemeView.{table_of}
use Rattle.pc_books.proofs.copies.copy_tables.Given as goal

abbrev pub invariant-loop-table : goal.invariant-loop-table
invariant-loop-table l = map table_of l.copies.items ≡ map table_of (take l.table-index l.tables)
