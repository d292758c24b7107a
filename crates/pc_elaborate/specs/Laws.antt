-- That each tree has one outcome: what it stands for, or its first fault.
use Rattle.std.specs.Prelude.{List, [], ℕ}
use Rattle.pc_formula.specs.Tree as tree
use Rattle.pc_sheet.specs.Sheet.{Universe, Statement}
use Rattle.pc_sheet.specs.WellFormed.{IsWellFormedUniverse}
use Rattle.pc_sheet.specs.WellSorted.{IsWellSorted}
use Rattle.pc_sheet.specs.declared.ids.SortId.{SortId}
use Rattle.pc_sheet.specs.declared.ids.CellId.{CellId}
use Rattle.pc_elaborate.specs.Elaboration.{IsSortNamed, StandsForValue, AreValuesOf, IsCell, IsStatement}
use Rattle.pc_elaborate.specs.FormulaFaults.{IsSortNameFault, IsValueFault, AreValuesFault, IsCellFault, IsFormulaFault}
use Rattle.pc_elaborate.specs.Outcome.{HasOneOutcome, HasUniqueNames}

-- a cell with the sort of its values
abbrev pub IsCellWithSort : Universe → tree.Cell → CellId × SortId → Type 0
IsCellWithSort u c k = IsCell u c k.0 k.1

-- a closed well-sorted statement
abbrev pub IsClosedStatement : Universe → tree.Formula → Statement → Type 0
IsClosedStatement u f s = IsStatement u [] f s × IsWellSorted u [] s

-- in a universe
pub record HaveOneOutcome (u : Universe) : Type 0 where
  pub names : HasUniqueNames u
  pub sorts : (n : List ℕ) → HasOneOutcome (IsSortNamed u n) (IsSortNameFault u n)
  pub values : (s : SortId) (x : tree.Value) → HasOneOutcome (StandsForValue u s x) (IsValueFault u s x)
  pub rows : (ss : List SortId) (xs : List tree.Value) → HasOneOutcome (AreValuesOf u ss xs) (AreValuesFault u ss xs)
  pub cells : (c : tree.Cell) → HasOneOutcome (IsCellWithSort u c) (IsCellFault u c)
  pub formulas : (f : tree.Formula) → HasOneOutcome (IsClosedStatement u f) (IsFormulaFault u [] f)

-- in every well-formed one
abbrev pub TreesHaveOneOutcome : Type 0
TreesHaveOneOutcome = (u : Universe) → IsWellFormedUniverse u → HaveOneOutcome u
