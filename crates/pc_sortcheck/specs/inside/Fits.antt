-- When a declaration passes its tests behind those before it.
use Rattle.std.specs.Prelude.{◌≡◌, ℕ, ℤ, ◌<◌, ◌≤◌, ◌≤ℤ◌, List, length, slice_get, IsSomeAnd}
use Rattle.pc_formula.specs.Nesting.{nesting_of}
use Rattle.pc_formula.specs.Sized.{IsSized}
use Rattle.pc_formula.specs.Word.{most_nesting}
use Rattle.pc_syntax.specs.Tree as tree
use Rattle.pc_sheet.specs.Limits.{most_arguments, most_families, most_sorts, most_tables, most_values}
use Rattle.pc_sheet.specs.Sheet.{Sheet, Universe, range}
use Rattle.pc_sheet.specs.Sizes.{count_of}
use Rattle.pc_sheet.specs.WellSorted.{IsSmallNumber}
use Rattle.pc_sheet.specs.declared.ids.SortId.{SortId}
use Rattle.pc_sheet.specs.declared.ids.TableId.{TableId}
use Rattle.pc_sheet.specs.declared.ids.ValueId.{ValueId}
use Rattle.pc_elaborate.specs.declared.fault.SortFault.{SortFault}
use Rattle.pc_elaborate.specs.declared.fault.SortFault.TheVariants.{WrongArity}
use Rattle.pc_elaborate.specs.Elaboration.{AreValuesOf}
use Rattle.pc_elaborate.specs.FormulaFaults.{AreValuesFault}
use Rattle.pc_elaborate.specs.Tests.{test}
use Rattle.pc_sortcheck.specs.DeclarationFaults.{IsNew, AreNewValues}

-- at least one value, and not too many, with names that are new and different; room for another sort
pub record ListFits (old : Sheet) (n : List ℕ) (values : List (List ℕ)) : Type 0 where
  pub fresh : IsNew old.universe n
  pub sorts : length old.universe.sorts < most_sorts
  pub some : 1 ≤ length values
  pub limit : length values ≤ most_values
  pub names : AreNewValues old.universe n values

-- at least one whole number, and not too many, between small bounds; room for another sort
pub record RangeFits (old : Sheet) (n : List ℕ) (low high : ℤ) : Type 0 where
  pub fresh : IsNew old.universe n
  pub sorts : length old.universe.sorts < most_sorts
  pub low_bound : IsSmallNumber low
  pub high_bound : IsSmallNumber high
  pub some : low ≤ℤ high
  pub limit : count_of (range low high) ≤ most_values

-- at least one argument, and not too many; room for another table
pub record TableFits (old : Sheet) (n : List ℕ) (sorts : List (List ℕ)) : Type 0 where
  pub fresh : IsNew old.universe n
  pub tables : length old.universe.tables < most_tables
  pub some : 1 ≤ length sorts
  pub limit : length sorts ≤ most_arguments

-- not too many arguments; room for another family
pub record FamilyFits (old : Sheet) (n : List ℕ) (sorts : List (List ℕ)) : Type 0 where
  pub fresh : IsNew old.universe n
  pub families : length old.universe.families < most_families
  pub limit : length sorts ≤ most_arguments

-- ---- what is named

-- the values are a row of the table's sorts
abbrev pub AreRowOf : Universe → TableId → List tree.Value → List ValueId → Type 0
AreRowOf u t values vs = (ss : List SortId) × IsSomeAnd (slice_get u.tables t.0) (λ table. table.sorts ≡ ss) × AreValuesOf u ss values vs

-- they are none: there are more or fewer of them, or one isn't of its sort
abbrev pub AreNoRowOf : Universe → TableId → List tree.Value → SortFault → Type 0
AreNoRowOf u t values e = (ss : List SortId) × IsSomeAnd (slice_get u.tables t.0) (λ table. table.sorts ≡ ss) × test (length values ≡ length ss) WrongArity (AreValuesFault u ss values) e

-- ---- rules

-- a rule's formula is sized, and doesn't nest too deep; nothing is asked of other declarations
abbrev pub HasWrittenRule : tree.Declared → Type 0
HasWrittenRule (tree.rule n f) = IsSized f × (nesting_of f ≤ most_nesting)
HasWrittenRule d = Unit {0}
