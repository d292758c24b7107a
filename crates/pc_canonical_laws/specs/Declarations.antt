-- The declarations that a sheet's canonical text writes, in their order.
use Rattle.std.specs.Prelude.{ℕ, ◌+◌, pos, ◌+ℤ◌, List, [], ◌∷◌, ◌++◌, map, slice_get, unwrap_or, if◌then◌else◌}
use Rattle.std.specs.List.{flat_map}
use Rattle.pc_sheet.specs.Sheet.{Values, listed, range, Sort, Table, Family, Universe, NamedStatement, Sheet}
use Rattle.pc_sheet.specs.Sizes.{values_at, argument_sorts}
use Rattle.pc_sheet.specs.declared.ids.SortId.{SortId}
use Rattle.pc_sheet.specs.declared.ids.CellId.{CellId}
use Rattle.pc_sheet.specs.declared.ids.ValueId.{ValueId}
use Rattle.pc_sheet.specs.declared.ids.Entry.{Entry}
use Rattle.pc_syntax.specs.Tree.{Value, name_value, integer_value, Cell, Declared, list_sort, range_sort, table, row, cell, rule, enter, also}
use Rattle.pc_writer.specs.Spelling.{application_of, family_of, name_of, sort_of}
use Rattle.pc_writer.specs.FormulaText.{sort_name}
use Rattle.pc_writer.specs.SheetText.{each_behind, is_later}
use Rattle.pc_canonical_laws.specs.Tree.{statement_tree}

-- ---- values and cells

-- a listed value by its name, a value of a range by its number
abbrev pub value_among : Values → ValueId → Value
value_among (listed names) v = name_value (unwrap_or (slice_get names v.0) [])
value_among (range low high) v = integer_value (low +ℤ pos v.0)

abbrev pub written_value : Universe → SortId → ValueId → Value
written_value u s v = value_among (values_at u s) v

-- values, each of the sort at its place
abbrev pub written_values : Universe → List SortId → List ValueId → List Value
written_values u [] vs = []
written_values u (s ∷ ss) [] = []
written_values u (s ∷ ss) (v ∷ vs) = written_value u s v ∷ written_values u ss vs

-- a cell by its family's name and its arguments
abbrev pub written_cell : Universe → CellId → Cell
written_cell u c = record { name = name_of (family_of u c); args = written_values u (argument_sorts (family_of u c)) (application_of u c).arguments }

-- ---- one declaration

abbrev pub values_declaration : List ℕ → Values → Declared
values_declaration name (listed names) = list_sort name names
values_declaration name (range low high) = range_sort name low high

abbrev pub sort_declaration : Sort → Declared
sort_declaration s = values_declaration s.name s.values

abbrev pub table_declaration : Universe → Table → Declared
table_declaration u t = table t.name (map (sort_name u) t.sorts)

abbrev pub row_declaration : Universe → Table → List ValueId → Declared
row_declaration u t values = row t.name (written_values u t.sorts values)

abbrev pub row_declarations : Universe → Table → List Declared
row_declarations u t = map (row_declaration u t) t.rows

abbrev pub family_declaration : Universe → Family → Declared
family_declaration u f = cell f.name (map (sort_name u) f.sorts) (sort_name u f.result_sort)

abbrev pub rule_declaration : Universe → NamedStatement → Declared
rule_declaration u r = rule r.name (statement_tree u [] r.states)

abbrev pub enter_declaration : Universe → Entry → Declared
enter_declaration u e = enter (written_cell u e.cell) (written_value u (sort_of u e.cell) e.value)

abbrev pub also_declaration : Universe → Entry → Declared
also_declaration u e = also (written_cell u e.cell) (written_value u (sort_of u e.cell) e.value)

-- behind these older ones: the first entry of a cell is entered, and a later one stands beside it
abbrev pub entry_declaration : Universe → List Entry → Entry → Declared
entry_declaration u older e = if is_later older e then also_declaration u e else enter_declaration u e

-- ---- all of them

abbrev pub entry_declarations : Universe → List Entry → List Declared
entry_declarations u es = each_behind (entry_declaration u) [] es

-- all sorts, all tables, the rows table by table, and all families
abbrev pub universe_declarations : Universe → List Declared
universe_declarations u =
    map sort_declaration u.sorts ++ (map (table_declaration u) u.tables ++ (flat_map (row_declarations u) u.tables ++ map (family_declaration u) u.families))

-- the universe, all rules, and all entries with the oldest first
abbrev pub declarations_of : Sheet → List Declared
declarations_of s =
    universe_declarations s.universe ++ (map (rule_declaration s.universe) s.rules ++ entry_declarations s.universe s.entries)

-- each with its line's number, the first having this one
abbrev pub numbered_from : ℕ → List Declared → List (ℕ × Declared)
numbered_from n [] = []
numbered_from n (d ∷ ds) = (n, d) ∷ numbered_from (n + 1) ds

-- the first line of a sheet is its heading, and each further one declares something up to the last
abbrev pub numbered_declarations : Sheet → List (ℕ × Declared)
numbered_declarations s = numbered_from 2 (declarations_of s)
