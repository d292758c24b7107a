-- Why declarations give no sheet: the tests of each kind of line, in order, and the first line at fault.
use Rattle.std.specs.Prelude.{◌≡◌, ◌⊎◌, ℕ, ◌<◌, ◌≤◌, ◌≤ℤ◌, List, [], ◌∷◌, map, length, sum_by, Contains, slice_get, IsSomeAnd}
use Rattle.pc_syntax.specs.Tree as tree
use Rattle.pc_syntax.specs.Tree.{list_sort, range_sort, table, row, cell, rule, enter, also}
use Rattle.pc_sheet.specs.Limits.{most_arguments, most_cells, most_entries, most_families, most_rows, most_rules, most_sorts, most_tables, most_values}
use Rattle.pc_sheet.specs.Sheet.{Sheet, Universe, range, empty_sheet}
use Rattle.pc_sheet.specs.Sizes.{count_of, cells_in}
use Rattle.pc_sheet.specs.WellFormed.{AreDifferent, entries_of, rows_in, rule_name}
use Rattle.pc_sheet.specs.WellSorted.{IsSmallNumber}
use Rattle.pc_sheet.specs.declared.ids.CellId.{CellId}
use Rattle.pc_sheet.specs.declared.ids.Entry.{Entry}
use Rattle.pc_sheet.specs.declared.ids.SortId.{SortId}
use Rattle.pc_sheet.specs.declared.ids.TableId.{TableId}
use Rattle.pc_sheet.specs.declared.ids.ValueId.{ValueId}
use Rattle.pc_books.specs.Edits.{family_from, with_family}
use Rattle.pc_elaborate.specs.declared.fault.SortFault.{SortFault}
use Rattle.pc_elaborate.specs.declared.fault.SortFault.TheVariants.{DuplicateName, WrongArity, EmptySort, Limit}
use Rattle.pc_sheet.specs.declared.limits.Limited.TheVariants.{Sorts, Values, Number, Tables, Families, Arity, Cells, Rows, Rules, Entries}
use Rattle.pc_elaborate.specs.Elaboration.{IsSortNamed, AreValuesOf, IsCell, IsEntryNamed}
use Rattle.pc_elaborate.specs.FormulaFaults.{IsDeclared, IsSomeSort, IsSomeTable, IsSortNameFault, IsNameFault, AreValuesFault, IsValueFault, IsCellFault, IsSortedFormula, IsFormulaFault}
use Rattle.pc_elaborate.specs.Tests.{no_test, test, part}
use Rattle.pc_sortcheck.specs.Declaring.{AreSortsNamed, IsTableWithSorts, Declares}

-- nothing has the name yet
abbrev pub IsNew : Universe → List ℕ → Type 0
IsNew u n = ¬ IsDeclared u n

-- the values' names are new, none of them that of their sort, no two the same
abbrev pub AreNewValues : Universe → List ℕ → List (List ℕ) → Type 0
AreNewValues u n values = AreDifferent (n ∷ values) × ((v : List ℕ) → Contains values v → IsNew u v)

-- sorts are asked for by their names
abbrev pub AreSortNamesFault : Universe → List (List ℕ) → SortFault → Type 0
AreSortNamesFault u [] = no_test
AreSortNamesFault u (n ∷ ns) = part (IsSomeSort u n) (IsSortNameFault u n) (AreSortNamesFault u ns)

abbrev pub AreSomeSorts : Universe → List (List ℕ) → Type 0
AreSomeSorts u ns = (ss : List SortId) × AreSortsNamed u ns ss

-- the row stands already, or there is room for one more
abbrev pub HasRoomForRow : Universe → TableId → List ValueId → Type 0
HasRoomForRow u t vs = IsSomeAnd (slice_get u.tables t.0) (λ table. Contains table.rows vs) ⊎ (sum_by rows_in u.tables < most_rows)

-- the faults of a row, the table and the sorts of its arguments being known
abbrev pub IsRowFault : Universe → List tree.Value → TableId → List SortId → SortFault → Type 0
IsRowFault u values t ss =
    test (length values ≡ length ss) WrongArity
    (part ((vs : List ValueId) × AreValuesOf u ss values vs) (AreValuesFault u ss values)
    (λ e. (vs : List ValueId) × AreValuesOf u ss values vs × test (HasRoomForRow u t vs) (Limit Rows) no_test e))

-- the family's cells stand beside those of the families before it
abbrev pub HasRoomForCells : Sheet → List ℕ → List SortId → SortId → Type 0
HasRoomForCells old n ss r = sum_by (cells_in (with_family old (family_from n ss r)).universe) (with_family old (family_from n ss r)).universe.families ≤ most_cells

-- a rule's tests before that of its name
abbrev pub IsRuleFault : Sheet → tree.Formula → (SortFault → Type 0) → SortFault → Type 0
IsRuleFault old f rest =
    part (IsSortedFormula old.universe [] f) (IsFormulaFault old.universe [] f) (test (length old.rules < most_rules) (Limit Rules) rest)

-- the faults of an entry's cell and then of its value
abbrev pub IsEntryFault : Universe → tree.Cell → tree.Value → SortFault → Type 0
IsEntryFault u c v =
    part ((k : CellId) × (s : SortId) × IsCell u c k s) (IsCellFault u c)
    (λ e. (k : CellId) × (s : SortId) × IsCell u c k s × IsValueFault u s v e)

-- the entry stands, or its cell may have one more
abbrev pub HasRoomForEntry : Sheet → Entry → Type 0
HasRoomForEntry old e = Contains old.entries e ⊎ (length (entries_of e.cell old.entries) < most_entries)

abbrev pub IsDeclarationFault : Sheet → tree.Declared → SortFault → Type 0
IsDeclarationFault old (list_sort n values) =
    test (IsNew old.universe n) DuplicateName
    (test (length old.universe.sorts < most_sorts) (Limit Sorts)
    (test (1 ≤ length values) EmptySort
    (test (length values ≤ most_values) (Limit Values) (test (AreNewValues old.universe n values) DuplicateName no_test))))
IsDeclarationFault old (range_sort n low high) =
    test (IsNew old.universe n) DuplicateName
    (test (length old.universe.sorts < most_sorts) (Limit Sorts)
    (test (IsSmallNumber low × IsSmallNumber high) (Limit Number)
    (test (low ≤ℤ high) EmptySort (test (count_of (range low high) ≤ most_values) (Limit Values) no_test))))
IsDeclarationFault old (table n sorts) =
    test (IsNew old.universe n) DuplicateName
    (test (length old.universe.tables < most_tables) (Limit Tables)
    (test ((1 ≤ length sorts) × (length sorts ≤ most_arguments)) (Limit Arity) (AreSortNamesFault old.universe sorts)))
IsDeclarationFault old (row n values) =
    part (IsSomeTable old.universe n) (IsNameFault old.universe n (IsSomeTable old.universe n))
    (λ e. (t : TableId) × (ss : List SortId) × IsTableWithSorts old.universe n t ss × IsRowFault old.universe values t ss e)
IsDeclarationFault old (cell n sorts result) =
    test (IsNew old.universe n) DuplicateName
    (test (length old.universe.families < most_families) (Limit Families)
    (test (length sorts ≤ most_arguments) (Limit Arity)
    (part (AreSomeSorts old.universe sorts) (AreSortNamesFault old.universe sorts)
    (part (IsSomeSort old.universe result) (IsSortNameFault old.universe result)
    (λ e. (ss : List SortId) × (r : SortId) × AreSortsNamed old.universe sorts ss × IsSortNamed old.universe result r
    × test (HasRoomForCells old n ss r) (Limit Cells) no_test e)))))
IsDeclarationFault old (rule n f) = IsRuleFault old f (test (¬ Contains (map rule_name old.rules) n) DuplicateName no_test)
IsDeclarationFault old (enter c v) = IsEntryFault old.universe c v
IsDeclarationFault old (also c v) =
    part ((e : Entry) × IsEntryNamed old.universe c v e) (IsEntryFault old.universe c v)
    (λ f. (e : Entry) × IsEntryNamed old.universe c v e × test (HasRoomForEntry old e) (Limit Entries) no_test f)

-- the declaration of that line is the first at fault
abbrev pub IsFirstFault : Sheet → List (ℕ × tree.Declared) → ℕ → SortFault → Type 0
IsFirstFault old [] line e = ⊥
IsFirstFault old (d ∷ ds) line e =
    ((line ≡ d.0) × IsDeclarationFault old d.1 e) ⊎ ((mid : Sheet) × Declares old d.1 mid × IsFirstFault mid ds line e)

-- why the declarations of a text give no sheet
abbrev pub IsSheetFault : List (ℕ × tree.Declared) → ℕ → SortFault → Type 0
IsSheetFault ds line e = IsFirstFault empty_sheet ds line e
