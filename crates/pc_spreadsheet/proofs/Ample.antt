-- Names and values of an entry have no fault that is want of memory.
use Rattle.std.proofs.Common.{◌≡◌, ℕ, List, [], ◌∷◌, length, inl, inr}
use Rattle.pc_formula.specs.Tree.{Value, Cell, name_value, integer_value}
use Rattle.pc_syntax.specs.Tree.{also}
use Rattle.pc_sheet.specs.Sheet.{Universe, Sheet}
use Rattle.pc_sheet.specs.declared.ids.SortId.{SortId}
use Rattle.pc_elaborate.specs.declared.fault.SortFault.TheVariants.{WrongArity, Memory}
use Rattle.pc_elaborate.specs.Tests.{test}
use Rattle.pc_elaborate.specs.FormulaFaults.{IsNameFault, IsSomeValue, IsValueFault, AreValuesFault, IsSomeFamily, IsCellFault}
use Rattle.pc_sortcheck.specs.DeclarationFaults.{IsEntryFault, IsDeclarationFault}

module _ (u : Universe) where
  name_ample : (n : List ℕ) (IsOfKind : Type 0) → ¬ IsNameFault u n IsOfKind Memory
  name_ample n IsOfKind (inl fails) = absurd (cc fails.1)
  name_ample n IsOfKind (inr (is, inl fails)) = absurd (cc fails.1)
  name_ample n IsOfKind (inr (is, inr none)) = none.1

  value_ample : (s : SortId) (x : Value) → ¬ IsValueFault u s x Memory
  value_ample s (name_value n) fails = name_ample n (IsSomeValue u s (name_value n)) fails
  value_ample s (integer_value z) (inl fails) = absurd (cc fails.1)
  value_ample s (integer_value z) (inr (is, inl fails)) = absurd (cc fails.1)
  value_ample s (integer_value z) (inr (is, inr none)) = none.1

  values_ample : (ss : List SortId) (xs : List Value) → ¬ AreValuesFault u ss xs Memory
  values_ample [] xs fails = fails
  values_ample (s ∷ ss) [] fails = fails
  values_ample (s ∷ ss) (x ∷ xs) (inl fails) = value_ample s x fails
  values_ample (s ∷ ss) (x ∷ xs) (inr more) = values_ample ss xs more.1

  arguments_ample : (ss : List SortId) (xs : List Value) → ¬ test (length xs ≡ length ss) WrongArity (AreValuesFault u ss xs) Memory
  arguments_ample ss xs (inl fails) = absurd (cc fails.1)
  arguments_ample ss xs (inr more) = values_ample ss xs more.1

  pub cell_ample : (c : Cell) → ¬ IsCellFault u c Memory
  cell_ample c (inl fails) = name_ample c.name (IsSomeFamily u c.name) fails
  cell_ample c (inr more) = arguments_ample more.1.1 c.args more.1.4

  pub entry_ample : (c : Cell) (v : Value) → ¬ IsEntryFault u c v Memory
  entry_ample c v (inl fails) = cell_ample c fails
  entry_ample c v (inr more) = value_ample more.1.1 v more.1.3

pub further_ample : (sheet : Sheet) (c : Cell) (v : Value) → ¬ IsDeclarationFault sheet (also c v) Memory
further_ample sheet c v (inl fails) = entry_ample sheet.universe c v fails
further_ample sheet c v (inr (is, (e, named, inl fails))) = absurd (cc fails.1)
further_ample sheet c v (inr (is, (e, named, inr none))) = none.1
