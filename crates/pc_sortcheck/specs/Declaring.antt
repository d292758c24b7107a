-- What declarations make of a sheet, one after another.
use Rattle.std.specs.Prelude.{◌≡◌, ℕ, List, [], ◌∷◌, slice_get, IsSomeAnd}
use Rattle.pc_syntax.specs.Tree as tree
use Rattle.pc_syntax.specs.Sheet.{IsSheet}
use Rattle.pc_syntax.specs.Tree.{list_sort, range_sort, table, row, cell, rule, enter, also}
use Rattle.pc_sheet.specs.Sheet.{Sheet, Universe, empty_sheet, with_rule}
use Rattle.pc_sheet.specs.Sheet as plain
use Rattle.pc_sheet.specs.WellFormed.{IsWellFormed}
use Rattle.pc_sheet.specs.declared.ids.SortId.{SortId}
use Rattle.pc_sheet.specs.declared.ids.TableId.{TableId}
use Rattle.pc_sheet.specs.declared.ids.ValueId.{ValueId}
use Rattle.pc_sheet.specs.declared.ids.Entry.{Entry}
use Rattle.pc_books.specs.Edits as edits
use Rattle.pc_books.specs.Edits.{listed_sort, table_from, family_from, with_sort, with_table, with_row, with_family, entered, also_entered}
use Rattle.pc_elaborate.specs.Elaboration.{IsSortNamed, IsTableNamed, AreValuesOf, IsStatement, IsEntryNamed}

-- the sorts of these names
abbrev pub AreSortsNamed : Universe → List (List ℕ) → List SortId → Type 0
AreSortsNamed u [] [] = Unit {0}
AreSortsNamed u [] (s ∷ ss) = ⊥
AreSortsNamed u (n ∷ ns) [] = ⊥
AreSortsNamed u (n ∷ ns) (s ∷ ss) = IsSortNamed u n s × AreSortsNamed u ns ss

-- the table of that name, whose arguments are of these sorts
abbrev pub IsTableWithSorts : Universe → List ℕ → TableId → List SortId → Type 0
IsTableWithSorts u n t ss = IsTableNamed u n t × IsSomeAnd (slice_get u.tables t.0) (λ table. table.sorts ≡ ss)

-- the new sheet is the old one with what is declared
abbrev pub Makes : Sheet → tree.Declared → Sheet → Type 0
Makes old (list_sort n values) new = new ≡ with_sort old (listed_sort n values)
Makes old (range_sort n low high) new = new ≡ with_sort old (edits.range_sort n low high)
Makes old (table n sorts) new = (ss : List SortId) × AreSortsNamed old.universe sorts ss × (new ≡ with_table old (table_from n ss))
Makes old (row n values) new =
    (t : TableId) × (ss : List SortId) × (vs : List ValueId) × IsTableWithSorts old.universe n t ss × AreValuesOf old.universe ss values vs × (new ≡ with_row old t vs)
Makes old (cell n sorts result) new =
    (ss : List SortId) × (r : SortId) × AreSortsNamed old.universe sorts ss × IsSortNamed old.universe result r × (new ≡ with_family old (family_from n ss r))
Makes old (rule n f) new = (s : plain.Statement) × IsStatement old.universe [] f s × (new ≡ with_rule old (record { name = n; states = s }))
Makes old (enter c v) new = (e : Entry) × IsEntryNamed old.universe c v e × (new ≡ entered old e)
Makes old (also c v) new = (e : Entry) × IsEntryNamed old.universe c v e × (new ≡ also_entered old e)

-- and that is well sorted, within the limits, with names of their own
abbrev pub Declares : Sheet → tree.Declared → Sheet → Type 0
Declares old d new = Makes old d new × IsWellFormed new

-- one declaration after another
abbrev pub DeclareAll : Sheet → List (ℕ × tree.Declared) → Sheet → Type 0
DeclareAll old [] new = new ≡ old
DeclareAll old (d ∷ ds) new = (mid : Sheet) × Declares old d.1 mid × DeclareAll mid ds new

-- what the declarations of a text give
abbrev pub IsSheetOf : List (ℕ × tree.Declared) → Sheet → Type 0
IsSheetOf ds sheet = DeclareAll empty_sheet ds sheet

-- the text is declarations, and they give this sheet
pub record ReadsAs (text : List ℕ) (sheet : Sheet) : Type 0 where
  pub declared : List (ℕ × tree.Declared)
  pub is : IsSheet text declared
  pub gives : IsSheetOf declared sheet
