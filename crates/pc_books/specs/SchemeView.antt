-- The universe that the declarations of a book stand for.
use Rattle.std.specs.Prelude.{map}
use Rattle.pc_sheet.specs.Sheet.{Values, listed, range, Sort, Table, Family, Universe}
use Rattle.pc_books.specs.declared.scheme.SortValues.{SortValues}
use Rattle.pc_books.specs.declared.scheme.SortValues.TheVariants.{Listed, Range}
use Rattle.pc_books.specs.declared.scheme.SortDecl.{SortDecl}
use Rattle.pc_books.specs.declared.scheme.TableDecl.{TableDecl}
use Rattle.pc_books.specs.declared.scheme.FamilyDecl.{FamilyDecl}
use Rattle.pc_books.specs.declared.scheme.Scheme.{Scheme}

-- the names, or the bounds
abbrev pub values_of : SortValues → Values
values_of (Listed names) = listed names.items
values_of (Range low high) = range low high

-- a declared sort
abbrev pub sort_of : SortDecl → Sort
sort_of s = record { name = s.name; values = values_of s.values }

-- a declared table
abbrev pub table_of : TableDecl → Table
table_of t = record { name = t.name; sorts = t.sorts.items; rows = t.rows }

-- a declared family, without its counts
abbrev pub family_of : FamilyDecl → Family
family_of f = record { name = f.name; sorts = f.sorts.items; result_sort = f.result_sort }

-- all declarations
abbrev pub universe_of : Scheme → Universe
universe_of s = record { sorts = map sort_of s.sorts.items; tables = map table_of s.tables.items; families = map family_of s.families.items }
