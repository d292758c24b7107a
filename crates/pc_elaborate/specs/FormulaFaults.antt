-- Why cells, values and formulas aren't well sorted: their tests, in order.
use Rattle.std.specs.Prelude.{◌≡◌, ◌⊎◌, ℕ, ℤ, pos, ◌+◌, ◌<◌, Bool, true, false, List, [], ◌∷◌, ◌++◌, map, length, Contains, slice_get, IsSomeAnd}
use Rattle.pc_name.specs.declared.sign.Op.{Op}
use Rattle.pc_name.specs.declared.sign.Sign.{Sign}
use Rattle.pc_formula.specs.Tree as tree
use Rattle.pc_formula.specs.Tree.{for_all, exists, counting, iff, implies, or, and, not, compare, in_table, no_part, integer, named, no_item, one_item, items_of, name_value, integer_value}
use Rattle.pc_sheet.specs.Limits.{most_depth}
use Rattle.pc_sheet.specs.Sheet as plain
use Rattle.pc_sheet.specs.Sheet.{Universe}
use Rattle.pc_sheet.specs.Sizes.{values_at}
use Rattle.pc_sheet.specs.Views.{counting_of}
use Rattle.pc_sheet.specs.WellSorted as sorted
use Rattle.pc_sheet.specs.WellSorted.{Variables, variable_name, declared_names, IsRange, IsOfSort, IsInteger, IsSmallNumber, AreComparable, IsWellSorted, ReadsFew, reads_in_sum, reads_in_items}
use Rattle.pc_sheet.specs.declared.ids.SortId.{SortId}
use Rattle.pc_sheet.specs.declared.ids.TableId.{TableId}
use Rattle.pc_sheet.specs.declared.ids.FamilyId.{FamilyId}
use Rattle.pc_sheet.specs.declared.ids.ValueId.{ValueId}
use Rattle.pc_elaborate.specs.declared.fault.SortFault.{SortFault}
use Rattle.pc_elaborate.specs.declared.fault.SortFault.TheVariants.{UnknownName, DuplicateName, WrongArity, WrongSort, NotAValue, Limit}
use Rattle.pc_sheet.specs.declared.limits.Limited.TheVariants.{Number, Count, Depth, Reads}
use Rattle.pc_elaborate.specs.Elaboration.{IsSortNamed, IsTableNamed, IsFamilyNamed, TakesArguments, StandsForValue, IsItem, IsArgument, AreArguments, IsSum, IsStatement}
use Rattle.pc_elaborate.specs.Tests.{no_test, test, part}

-- ---- names

-- a sort, a listed value, a table or a family has the name
abbrev pub IsDeclared : Universe → List ℕ → Type 0
IsDeclared u n = Contains (declared_names u) n

abbrev pub IsSomeSort : Universe → List ℕ → Type 0
IsSomeSort u n = (s : SortId) × IsSortNamed u n s

abbrev pub IsSomeTable : Universe → List ℕ → Type 0
IsSomeTable u n = (t : TableId) × IsTableNamed u n t

abbrev pub IsSomeFamily : Universe → List ℕ → Type 0
IsSomeFamily u n = (f : FamilyId) × IsFamilyNamed u n f

-- something of a kind is asked for by its name
abbrev pub IsNameFault : Universe → List ℕ → Type 0 → SortFault → Type 0
IsNameFault u n IsOfKind = test (IsDeclared u n) UnknownName (test IsOfKind WrongSort no_test)

abbrev pub IsSortNameFault : Universe → List ℕ → SortFault → Type 0
IsSortNameFault u n = IsNameFault u n (IsSomeSort u n)

-- ---- values and cells

abbrev pub IsSomeValue : Universe → SortId → tree.Value → Type 0
IsSomeValue u s x = (v : ValueId) × StandsForValue u s x v

-- a value of the sort is asked for
abbrev pub IsValueFault : Universe → SortId → tree.Value → SortFault → Type 0
IsValueFault u s (name_value n) = test (IsDeclared u n) UnknownName (test (IsSomeValue u s (name_value n)) WrongSort no_test)
IsValueFault u s (integer_value z) = test (IsRange (values_at u s)) WrongSort (test (IsSomeValue u s (integer_value z)) NotAValue no_test)

-- values of as many sorts are asked for
abbrev pub AreValuesFault : Universe → List SortId → List tree.Value → SortFault → Type 0
AreValuesFault u [] xs = no_test
AreValuesFault u (s ∷ ss) [] = no_test
AreValuesFault u (s ∷ ss) (x ∷ xs) = part (IsSomeValue u s x) (IsValueFault u s x) (AreValuesFault u ss xs)

-- the faults behind a family's name, its argument sorts being known
abbrev pub HasFamily : Universe → List ℕ → (List SortId → SortFault → Type 0) → SortFault → Type 0
HasFamily u n Fails e = (f : FamilyId) × (ss : List SortId) × IsFamilyNamed u n f × TakesArguments u f ss × Fails ss e

-- a cell is asked for
abbrev pub IsCellFault : Universe → tree.Cell → SortFault → Type 0
IsCellFault u c =
    part (IsSomeFamily u c.name) (IsNameFault u c.name (IsSomeFamily u c.name))
    (HasFamily u c.name (λ ss. test (length c.args ≡ length ss) WrongArity (AreValuesFault u ss c.args)))

-- ---- items

-- an enclosing variable has the name
abbrev pub IsAround : Variables → List ℕ → Type 0
IsAround vs n = Contains (map variable_name vs) n

-- the item stands for something of some sort
abbrev pub IsSortedItem : Universe → Variables → tree.Item → Type 0
IsSortedItem u vs a = (x : plain.Item) × (s : SortId) × IsItem u vs a x × IsOfSort u vs x s

-- the argument stands for something of that sort
abbrev pub IsSortedArgument : Universe → Variables → SortId → tree.Item → Type 0
IsSortedArgument u vs s a = (x : plain.Item) × IsArgument u vs s a x × IsOfSort u vs x s

abbrev pub count_items : tree.Items → ℕ
count_items no_item = 0
count_items (one_item a items) = 1 + count_items items

-- the tests of a name with these items behind it, whose faults are given
abbrev pub IsNamedFault : Universe → Variables → List ℕ → tree.Items → (List SortId → SortFault → Type 0) → SortFault → Type 0
IsNamedFault u vs n no_item Items =
    test (IsAround vs n ⊎ IsDeclared u n) UnknownName
    (test (¬ (IsSomeSort u n ⊎ IsSomeTable u n)) WrongSort
    (test (IsSomeFamily u n → (f : FamilyId) × IsFamilyNamed u n f × TakesArguments u f []) WrongArity no_test))
IsNamedFault u vs n (one_item a items) Items =
    test (IsAround vs n ⊎ IsDeclared u n) UnknownName
    (test (IsSomeFamily u n) WrongSort
    (HasFamily u n (λ ss. test (count_items (one_item a items) ≡ length ss) WrongArity (Items ss))))

abbrev mutual
  -- an argument of the sort is asked for
  pub IsArgumentFault : Universe → Variables → SortId → tree.Item → SortFault → Type 0
  IsArgumentFault u vs s (integer z) = IsValueFault u s (integer_value z)
  IsArgumentFault u vs s (named n items) =
      part (IsSortedItem u vs (named n items)) (IsNamedFault u vs n items (λ ss. AreArgumentsFault u vs ss items))
      (test (IsSortedArgument u vs s (named n items)) WrongSort no_test)

  -- arguments of as many sorts are asked for
  pub AreArgumentsFault : Universe → Variables → List SortId → tree.Items → SortFault → Type 0
  AreArgumentsFault u vs ss no_item = no_test
  AreArgumentsFault u vs [] (one_item a items) = no_test
  AreArgumentsFault u vs (s ∷ ss) (one_item a items) = part (IsSortedArgument u vs s a) (IsArgumentFault u vs s a) (AreArgumentsFault u vs ss items)

-- a name that stands for something of some sort is asked for; integers are tested by the place where they stand
abbrev pub IsItemFault : Universe → Variables → tree.Item → SortFault → Type 0
IsItemFault u vs (integer z) = no_test
IsItemFault u vs (named n items) = IsNamedFault u vs n items (λ ss. AreArgumentsFault u vs ss items)

-- ---- sides

-- several items stand in the side
abbrev pub is_several : List (Sign × tree.Item) → Bool
is_several [] = false
is_several (a ∷ items) = true

-- the item may stand in a side, beside others or alone
abbrev pub IsSideItem : Universe → Variables → Bool → tree.Item → Type 0
IsSideItem u vs several (integer z) = IsSmallNumber z
IsSideItem u vs true (named n items) = (x : plain.Item) × IsItem u vs (named n items) x × IsInteger u vs x
IsSideItem u vs false (named n items) = IsSortedItem u vs (named n items)

abbrev pub IsSideItemFault : Universe → Variables → Bool → tree.Item → SortFault → Type 0
IsSideItemFault u vs several (integer z) = test (IsSmallNumber z) (Limit Number) no_test
IsSideItemFault u vs several (named n items) =
    part (IsSortedItem u vs (named n items)) (IsItemFault u vs (named n items)) (test (IsSideItem u vs several (named n items)) WrongSort no_test)

abbrev pub AreAddedFault : Universe → Variables → List (Sign × tree.Item) → SortFault → Type 0
AreAddedFault u vs [] = no_test
AreAddedFault u vs (a ∷ items) = part (IsSideItem u vs true a.1) (IsSideItemFault u vs true a.1) (AreAddedFault u vs items)

abbrev pub IsSideFault : Universe → Variables → tree.Side → SortFault → Type 0
IsSideFault u vs side =
    part (IsSideItem u vs (is_several side.rest) side.first) (IsSideItemFault u vs (is_several side.rest) side.first) (AreAddedFault u vs side.rest)

-- each item may stand there
abbrev pub AreAddedItems : Universe → Variables → List (Sign × tree.Item) → Type 0
AreAddedItems u vs [] = Unit {0}
AreAddedItems u vs (a ∷ items) = IsSideItem u vs true a.1 × AreAddedItems u vs items

abbrev pub IsSide : Universe → Variables → tree.Side → Type 0
IsSide u vs side = IsSideItem u vs (is_several side.rest) side.first × AreAddedItems u vs side.rest

-- ---- atoms

-- the faults of two sides that stand for these sums
abbrev pub AreSums : Universe → Variables → tree.Side → tree.Side → (plain.Sum → plain.Sum → SortFault → Type 0) → SortFault → Type 0
AreSums u vs left right Fails e = (x : plain.Sum) × (y : plain.Sum) × IsSum u vs left x × IsSum u vs right y × Fails x y e

abbrev pub IsComparisonFault : Universe → Variables → tree.Side → Op → tree.Side → SortFault → Type 0
IsComparisonFault u vs left op right =
    part (IsSide u vs left) (IsSideFault u vs left)
    (part (IsSide u vs right) (IsSideFault u vs right)
    (AreSums u vs left right
    (λ x y. test (ReadsFew (reads_in_sum x + reads_in_sum y)) (Limit Reads) (test (AreComparable u vs x op y) WrongSort no_test))))

abbrev pub AreSortedArguments : Universe → Variables → List SortId → tree.Items → Type 0
AreSortedArguments u vs ss no_item = Unit {0}
AreSortedArguments u vs [] (one_item a items) = ⊥
AreSortedArguments u vs (s ∷ ss) (one_item a items) = IsSortedArgument u vs s a × AreSortedArguments u vs ss items

-- the faults behind a table's name, its argument sorts being known
abbrev pub HasTable : Universe → List ℕ → (List SortId → SortFault → Type 0) → SortFault → Type 0
HasTable u n Fails e = (t : TableId) × (ss : List SortId) × IsTableNamed u n t × IsSomeAnd (slice_get u.tables t.0) (λ table. table.sorts ≡ ss) × Fails ss e

-- the faults of arguments that stand for these
abbrev pub GivesArguments : Universe → Variables → List SortId → tree.Items → (plain.Items → SortFault → Type 0) → SortFault → Type 0
GivesArguments u vs ss items Fails e = (xs : plain.Items) × AreArguments u vs ss items xs × Fails xs e

abbrev pub IsTableAtomFault : Universe → Variables → List ℕ → tree.Items → SortFault → Type 0
IsTableAtomFault u vs n items =
    part (IsSomeTable u n) (IsNameFault u n (IsSomeTable u n))
    (HasTable u n
    (λ ss. test (count_items items ≡ length ss) WrongArity
    (part (AreSortedArguments u vs ss items) (AreArgumentsFault u vs ss items)
    (GivesArguments u vs ss items (λ xs. test (ReadsFew (reads_in_items xs)) (Limit Reads) no_test)))))

-- ---- formulas

-- the formula stands for a well-sorted statement
abbrev pub IsSortedFormula : Universe → Variables → tree.Formula → Type 0
IsSortedFormula u vs f = (s : plain.Statement) × IsStatement u vs f s × IsWellSorted u vs s

-- the faults behind a sort's name
abbrev pub HasSort : Universe → List ℕ → (SortId → SortFault → Type 0) → SortFault → Type 0
HasSort u n Fails e = (s : SortId) × IsSortNamed u n s × Fails s e

-- the number is one that a counting quantifier may have: neither none nor out of reach
abbrev pub IsSmallCount : Bool → ℤ → Type 0
IsSmallCount at_most z = (k : ℕ) × (z ≡ pos k) × sorted.IsBound (counting_of at_most k)

-- the tests of a quantifier before its body
abbrev pub IsQuantifierFault : Universe → Variables → List ℕ → List ℕ → (SortId → SortFault → Type 0) → SortFault → Type 0
IsQuantifierFault u vs n sort Body =
    test (length vs < most_depth) (Limit Depth)
    (test (¬ (IsDeclared u n ⊎ IsAround vs n)) DuplicateName
    (part (IsSomeSort u sort) (IsSortNameFault u sort) (HasSort u sort Body)))

abbrev mutual
  pub IsFormulaFault : Universe → Variables → tree.Formula → SortFault → Type 0
  IsFormulaFault u vs (compare left op right) = IsComparisonFault u vs left op right
  IsFormulaFault u vs (in_table n items) = IsTableAtomFault u vs n (items_of items)
  IsFormulaFault u vs (not f) = IsFormulaFault u vs f
  IsFormulaFault u vs (and fs) = AreFormulasFault u vs fs
  IsFormulaFault u vs (or fs) = AreFormulasFault u vs fs
  IsFormulaFault u vs (implies f g) = part (IsSortedFormula u vs f) (IsFormulaFault u vs f) (IsFormulaFault u vs g)
  IsFormulaFault u vs (iff f g) = part (IsSortedFormula u vs f) (IsFormulaFault u vs f) (IsFormulaFault u vs g)
  IsFormulaFault u vs (for_all n sort f) = IsQuantifierFault u vs n sort (λ s. IsFormulaFault u (vs ++ (n, s) ∷ []) f)
  IsFormulaFault u vs (exists n sort f) = IsQuantifierFault u vs n sort (λ s. IsFormulaFault u (vs ++ (n, s) ∷ []) f)
  IsFormulaFault u vs (counting m z n sort f) = test (IsSmallCount m z) (Limit Count) (IsQuantifierFault u vs n sort (λ s. IsFormulaFault u (vs ++ (n, s) ∷ []) f))

  pub AreFormulasFault : Universe → Variables → tree.Formulas → SortFault → Type 0
  AreFormulasFault u vs no_part = no_test
  AreFormulasFault u vs (tree.part f fs) = part (IsSortedFormula u vs f) (IsFormulaFault u vs f) (AreFormulasFault u vs fs)
