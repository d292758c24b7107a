-- What a check tells that either finds something or has a first fault.
use Rattle.std.specs.Prelude.{◌≡◌, ◌⊎◌, ℕ, List, Option, None, Some, slice_get, length, Contains, Result, Ok, Err}
use Rattle.pc_sheet.specs.Sheet.{Universe}
use Rattle.pc_formula.specs.Tree as tree
use Rattle.pc_sheet.specs.Sizes.{result_sort_of, cell_number}
use Rattle.pc_sheet.specs.Cells.{Application, IsApplication, cells}
use Rattle.pc_sheet.specs.WellSorted.{declared_names}
use Rattle.pc_sheet.specs.declared.ids.SortId.{SortId}
use Rattle.pc_sheet.specs.declared.ids.FamilyId.{FamilyId}
use Rattle.pc_sheet.specs.declared.ids.CellId.{CellId}
use Rattle.pc_sheet.specs.declared.ids.ValueId.{ValueId}
use Rattle.pc_books.specs.Named.{IsNameOf}
use Rattle.pc_books.specs.declared.names.Named.{Named}
use Rattle.pc_elaborate.specs.Tests.{test}
use Rattle.pc_elaborate.specs.Elaboration.{TakesArguments, AreValuesOf}
use Rattle.pc_elaborate.specs.FormulaFaults.{AreValuesFault}
use Rattle.pc_elaborate.specs.declared.fault.SortFault.{SortFault}
use Rattle.pc_elaborate.specs.declared.fault.SortFault.TheVariants.{UnknownName, WrongArity, WrongSort, Memory}

-- what is answered is found, or it is a fault
abbrev pub IsFoundOrFault : {A : Type 0} → (A → Type 0) → (SortFault → Type 0) → Result A SortFault → Type 0
IsFoundOrFault IsFound Fails (Ok x) = IsFound x
IsFoundOrFault IsFound Fails (Err e) = Fails e

-- the answer is what is found, or the fault, and nothing else; memory is no reason
pub record TellsFound {A : Type 0} (IsFound : A → Type 0) (Fails : SortFault → Type 0) (r : Result A SortFault) : Type 0 where
  pub told : IsFoundOrFault IsFound Fails r
  pub only : (x : A) → IsFound x → r ≡ Ok x
  pub fault : (e : SortFault) → Fails e → r ≡ Err e
  pub ample : ¬ (r ≡ Err Memory)

-- the answer is that what was written is found, or the fault
abbrev pub IsWrittenOrFault : {A : Type 0} → List ValueId → List ValueId → Result A SortFault → Type 0
IsWrittenOrFault written vs (Ok x) = vs ≡ written
IsWrittenOrFault written vs (Err e) = ⊥

-- the same where what is found is written, and not answered
pub record TellsValues {A : Type 0} (AreFound : List ValueId → Type 0) (Fails : SortFault → Type 0) (written : List ValueId) (r : Result A SortFault) : Type 0 where
  pub told : IsFoundOrFault (λ x. AreFound written) Fails r
  pub only : (vs : List ValueId) → AreFound vs → IsWrittenOrFault written vs r
  pub fault : (e : SortFault) → Fails e → r ≡ Err e
  pub ample : ¬ (r ≡ Err Memory)

-- one thing at most is found, nothing is found beside a fault, and there is one fault at most
pub record HasOneOutcome {A : Type 0} (IsFound : A → Type 0) (Fails : SortFault → Type 0) : Type 0 where
  pub one : (x y : A) → IsFound x → IsFound y → x ≡ y
  pub never : (x : A) → IsFound x → (e : SortFault) → ¬ Fails e
  pub same : (e f : SortFault) → Fails e → Fails f → e ≡ f

-- a name stands for one thing at most
abbrev pub HasUniqueNames : Universe → Type 0
HasUniqueNames u = (n : List ℕ) (p q : Named) → IsNameOf u n p → IsNameOf u n q → p ≡ q

-- a name that is asked for isn't declared, or stands for something else
abbrev pub IsOtherName : Universe → List ℕ → SortFault → Type 0
IsOtherName u n e = ((¬ Contains (declared_names u) n) × (e ≡ UnknownName)) ⊎ (Contains (declared_names u) n × (e ≡ WrongSort))

-- the sort of a cell's values
abbrev pub sort_of_application : Universe → Option Application → SortId
sort_of_application u None = record { 0 = 0 }
sort_of_application u (Some a) = result_sort_of (slice_get u.families a.family.0)

abbrev pub sort_of_cell : Universe → CellId → SortId
sort_of_cell u c = sort_of_application u (slice_get (cells u) c.0)

-- the family applied to what is written is the cell, which is one of the universe's, or that has a fault
abbrev pub IsApplicationTold : Universe → FamilyId → List tree.Value → Result CellId SortFault → Type 0
IsApplicationTold u f xs (Ok c) =
    (ss : List SortId) × (vs : List ValueId) × TakesArguments u f ss × AreValuesOf u ss xs vs × IsApplication u (record { family = f; arguments = vs }) × (c.0 ≡ cell_number u f vs)
IsApplicationTold u f xs (Err e) = (ss : List SortId) × TakesArguments u f ss × test (length xs ≡ length ss) WrongArity (AreValuesFault u ss xs) e
