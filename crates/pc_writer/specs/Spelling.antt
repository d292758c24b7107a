-- How numbers, values, cells and entries are written.
use Rattle.std.specs.Prelude.{ℕ, pos, ◌+ℤ◌, List, [], ◌∷◌, ◌++◌, codes, map, Option, Some, None, slice_get, unwrap_or}
use Rattle.std.specs.List.{flat_map}
use Rattle.std.specs.Fmt.{signed_decimal}
use Rattle.pc_sheet.specs.Sheet.{Values, listed, range, Family, Universe}
use Rattle.pc_sheet.specs.Sizes.{values_at, argument_sorts, result_sort_of}
use Rattle.pc_sheet.specs.Cells.{Application, cells}
use Rattle.pc_sheet.specs.declared.ids.SortId.{SortId}
use Rattle.pc_sheet.specs.declared.ids.CellId.{CellId}
use Rattle.pc_sheet.specs.declared.ids.ValueId.{ValueId}
use Rattle.pc_sheet.specs.declared.ids.Entry.{Entry}

-- texts with a separator between each two
abbrev pub joined : List ℕ → List (List ℕ) → List ℕ
joined separator [] = []
joined separator (text ∷ texts) = text ++ flat_map (λ other. separator ++ other) texts

-- ---- values

-- a listed value by its name, a value of a range by its number
abbrev pub text_among : Values → ValueId → List ℕ
text_among (listed names) v = unwrap_or (slice_get names v.0) []
text_among (range low high) v = signed_decimal (low +ℤ pos v.0)

abbrev pub value_text : Universe → SortId → ValueId → List ℕ
value_text u s v = text_among (values_at u s) v

-- values, each of the sort at its place
abbrev pub value_texts : Universe → List SortId → List ValueId → List (List ℕ)
value_texts u [] vs = []
value_texts u (s ∷ ss) [] = []
value_texts u (s ∷ ss) (v ∷ vs) = value_text u s v ∷ value_texts u ss vs

-- ---- cells

abbrev pub no_application : Application
no_application = record { family = record { 0 = 0 }; arguments = [] }

-- what family the cell applies to which values
abbrev pub application_of : Universe → CellId → Application
application_of u c = unwrap_or (slice_get (cells u) c.0) no_application

abbrev pub family_of : Universe → CellId → Option Family
family_of u c = slice_get u.families (application_of u c).family.0

abbrev pub name_of : Option Family → List ℕ
name_of None = []
name_of (Some f) = f.name

-- arguments in parentheses with the separator between each two, or nothing where there are none
abbrev pub separated_arguments : List ℕ → Universe → List SortId → List ValueId → List ℕ
separated_arguments separator u [] vs = []
separated_arguments separator u (s ∷ ss) vs = codes "(" ++ (joined separator (value_texts u (s ∷ ss) vs) ++ codes ")")

-- a cell by its family's name and its arguments
abbrev pub separated_cell : List ℕ → Universe → CellId → List ℕ
separated_cell separator u c = name_of (family_of u c) ++ separated_arguments separator u (argument_sorts (family_of u c)) (application_of u c).arguments

-- as it is read best
abbrev pub arguments_text : Universe → List SortId → List ValueId → List ℕ
arguments_text u ss vs = separated_arguments (codes ", ") u ss vs

abbrev pub cell_text : Universe → CellId → List ℕ
cell_text u c = separated_cell (codes ", ") u c

-- ---- entries

-- the sort that a cell's values are of
abbrev pub sort_of : Universe → CellId → SortId
sort_of u c = result_sort_of (family_of u c)

abbrev pub entry_text : Universe → Entry → List ℕ
entry_text u e = cell_text u e.cell ++ (codes " = " ++ value_text u (sort_of u e.cell) e.value)

abbrev pub entries_text : Universe → List Entry → List ℕ
entries_text u es = joined (codes ", ") (map (entry_text u) es)
