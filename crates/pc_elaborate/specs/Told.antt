-- What the checks of trees tell.
use Rattle.std.specs.Prelude.{◌≡◌, ◌⊎◌, ℕ, ℤ, pos, ◌<◌, Bool, true, false, List, [], ◌∷◌, ◌++◌, All, length, map, Result, Ok, Err, Vec, Box}
use Rattle.std.specs.declared.alloc.Global.{Global}
use Rattle.pc_name.specs.declared.sign.Op.{Op}
use Rattle.pc_name.specs.declared.sign.Sign.{Sign}
use Rattle.pc_formula.specs.Tree as tree
use Rattle.pc_formula.specs.Tree.{Formula, Formulas}
use Rattle.pc_sheet.specs.Sheet as plain
use Rattle.pc_sheet.specs.Sheet.{Universe, Statement, Values}
use Rattle.pc_sheet.specs.Sizes.{values_at}
use Rattle.pc_sheet.specs.Views as views
use Rattle.pc_sheet.specs.Views.{item_of, added_of, sum_of, counting_of, statement_of}
use Rattle.pc_sheet.specs.declared.ids.FamilyId.{FamilyId}
use Rattle.pc_sheet.specs.declared.formula.Term.{Term}
use Rattle.pc_sheet.specs.declared.formula.Side.{Side}
use Rattle.pc_sheet.specs.declared.ids.SortId.{SortId}
use Rattle.pc_sheet.specs.WellSorted as sorted
use Rattle.pc_sheet.specs.WellSorted.{Variables, IsListed, IsRange, IsOfSort, AreOfSorts, IsInteger, IsIntegerSum, IsValueOf, IsEquality, IsNewVariable, IsWellSorted, AreWellSorted}
use Rattle.pc_sheet.specs.declared.formula.Formula as built
use Rattle.pc_elaborate.specs.declared.fault.SortFault.{SortFault}
use Rattle.pc_elaborate.specs.declared.scope.Variable.{Variable}
use Rattle.pc_elaborate.specs.declared.fault.SortFault.TheVariants.{UnknownName, DuplicateName, WrongArity, WrongSort, NotAValue, EmptySort, Limit, Memory}
use Rattle.pc_sheet.specs.declared.limits.Limited.TheVariants.{Count}
use Rattle.pc_elaborate.specs.declared.sides.Kind.{Kind}
use Rattle.pc_elaborate.specs.declared.sides.Kind.TheVariants.{Integer, Listed}
use Rattle.pc_elaborate.specs.Tests.{no_test, test}
use Rattle.pc_elaborate.specs.Elaboration.{IsSortNamed, IsFamilyNamed, IsItem, IsArgument, AreArguments, AreAdded, IsSum, IsStatement, AreStatements}
use Rattle.pc_elaborate.specs.FormulaFaults.{IsDeclared, IsAround, IsSomeFamily, IsItemFault, IsArgumentFault, AreArgumentsFault, IsSideItem, IsSideItemFault, AreAddedFault, AreAddedItems, IsSide, IsSideFault, IsSmallCount, IsQuantifierFault, IsFormulaFault, AreFormulasFault}

-- it is one of these faults, unless memory ran out
abbrev pub IsFaultOf : (SortFault → Type 0) → SortFault → Type 0
IsFaultOf Fails UnknownName = Fails UnknownName
IsFaultOf Fails DuplicateName = Fails DuplicateName
IsFaultOf Fails WrongArity = Fails WrongArity
IsFaultOf Fails WrongSort = Fails WrongSort
IsFaultOf Fails NotAValue = Fails NotAValue
IsFaultOf Fails EmptySort = Fails EmptySort
IsFaultOf Fails (Limit which) = Fails (Limit which)
IsFaultOf Fails Memory = Unit {0}

-- it is this fault, unless memory ran out
abbrev pub IsFault : SortFault → SortFault → Type 0
IsFault e = IsFaultOf (λ f. f ≡ e)

-- it says that memory ran out
abbrev pub IsWantOfMemory : SortFault → Type 0
IsWantOfMemory = IsFaultOf (λ f. ⊥)

-- the formula stands for what is answered, which is well sorted, or has that fault
abbrev pub IsFormulaTold : Universe → Variables → Formula → Result built.Formula SortFault → Type 0
IsFormulaTold u vs f (Ok g) = IsStatement u vs f (statement_of g) × IsWellSorted u vs (statement_of g)
IsFormulaTold u vs f (Err e) = IsFaultOf (IsFormulaFault u vs f) e

-- the result is this statement, unless memory ran out
abbrev pub TellsStatement : Result built.Formula SortFault → Statement → Type 0
TellsStatement (Ok f) s = s ≡ statement_of f
TellsStatement (Err e) s = IsWantOfMemory e

-- the result is this fault, unless memory ran out
abbrev pub TellsFault : {A : Type 0} → Result A SortFault → SortFault → Type 0
TellsFault (Ok x) e = ⊥
TellsFault (Err f) e = IsFault e f

-- ---- variables

abbrev pub variable_of : Variable → List ℕ × SortId
variable_of v = (v.name.now, v.sort)

abbrev pub variables_of : List Variable → Variables
variables_of vs = map variable_of vs

-- ---- items

-- an item that stands for what is answered, of the answered sort, or its fault
abbrev pub IsItemTold : Universe → Variables → tree.Item → Result (Term × SortId) SortFault → Type 0
IsItemTold u vs a (Ok p) = IsItem u vs a (item_of p.0) × IsOfSort u vs (item_of p.0) p.1 × (p.1.0 < length u.sorts)
IsItemTold u vs a (Err e) = IsFaultOf (IsItemFault u vs a) e

abbrev pub IsArgumentTold : Universe → Variables → SortId → tree.Item → Result Term SortFault → Type 0
IsArgumentTold u vs s a (Ok t) = IsArgument u vs s a (item_of t) × IsOfSort u vs (item_of t) s
IsArgumentTold u vs s a (Err e) = IsFaultOf (IsArgumentFault u vs s a) e

abbrev pub AreArgumentsTold : Universe → Variables → List SortId → tree.Items → Result (Vec Term Global) SortFault → Type 0
AreArgumentsTold u vs ss items (Ok ts) = AreArguments u vs ss items (views.items_of (map item_of ts.items)) × AreOfSorts u vs (views.items_of (map item_of ts.items)) ss
AreArgumentsTold u vs ss items (Err e) = IsFaultOf (AreArgumentsFault u vs ss items) e

-- a family's name is asked for, in front of arguments
abbrev pub IsAppliedTold : Universe → Variables → List ℕ → Result FamilyId SortFault → Type 0
IsAppliedTold u vs n (Ok f) = IsFamilyNamed u n f
IsAppliedTold u vs n (Err e) = test (IsAround vs n ⊎ IsDeclared u n) UnknownName (test (IsSomeFamily u n) WrongSort no_test) e

-- ---- sides

-- whole numbers, or values of that listed sort
abbrev pub IsKindOf : Values → SortId → Kind → Type 0
IsKindOf vs s Integer = IsRange vs
IsKindOf vs s (Listed t) = IsListed vs × (t ≡ s)

abbrev pub IsItemOfKind : Universe → Variables → plain.Item → Kind → Type 0
IsItemOfKind u vs x Integer = IsInteger u vs x
IsItemOfKind u vs x (Listed s) = IsOfSort u vs x s × IsListed (values_at u s)

abbrev pub IsSumOfKind : Universe → Variables → plain.Sum → Kind → Type 0
IsSumOfKind u vs x Integer = IsIntegerSum u vs x
IsSumOfKind u vs x (Listed s) = IsValueOf u vs s x

-- beside other items only integers may stand
abbrev pub MayStand : Bool → Kind → Type 0
MayStand several Integer = Unit {0}
MayStand true (Listed s) = ⊥
MayStand false (Listed s) = Unit {0}

abbrev pub IsSideItemTold : Universe → Variables → Bool → tree.Item → Result (Term × Kind) SortFault → Type 0
IsSideItemTold u vs several a (Ok p) = IsItem u vs a (item_of p.0) × IsItemOfKind u vs (item_of p.0) p.1 × IsSideItem u vs several a × MayStand several p.1
IsSideItemTold u vs several a (Err e) = IsFaultOf (IsSideItemFault u vs several a) e

abbrev pub AreAddedTold : Universe → Variables → List (Sign × tree.Item) → Result (Vec (Sign × Term) Global) SortFault → Type 0
AreAddedTold u vs items (Ok ts) = AreAdded u vs items (map added_of ts.items) × All (λ x. IsInteger u vs x.1) (map added_of ts.items) × AreAddedItems u vs items
AreAddedTold u vs items (Err e) = IsFaultOf (AreAddedFault u vs items) e

abbrev pub IsSideTold : Universe → Variables → tree.Side → Result (Side × Kind) SortFault → Type 0
IsSideTold u vs side (Ok p) = IsSum u vs side (sum_of p.0) × IsSumOfKind u vs (sum_of p.0) p.1 × IsSide u vs side
IsSideTold u vs side (Err e) = IsFaultOf (IsSideFault u vs side) e

-- sides of these kinds may be compared by the sign
abbrev pub MayCompare : Kind → Op → Kind → Type 0
MayCompare Integer op Integer = Unit {0}
MayCompare Integer op (Listed t) = ⊥
MayCompare (Listed s) op Integer = ⊥
MayCompare (Listed s) op (Listed t) = IsEquality op × (s ≡ t)

-- ---- quantifiers and parts

-- the number of a counting quantifier is one that it may have, or that is at fault
abbrev pub IsCountTold : Bool → ℤ → Result ℕ SortFault → Type 0
IsCountTold m z (Ok k) = (z ≡ pos k) × sorted.IsBound (counting_of m k)
IsCountTold m z (Err e) = test (IsSmallCount m z) (Limit Count) no_test e

-- the variable of a quantifier is new and of a declared sort, or a fault comes before the body
abbrev pub IsVariableTold : Universe → Variables → List ℕ → List ℕ → Result SortId SortFault → Type 0
IsVariableTold u vs n sort (Ok s) = IsSortNamed u sort s × IsNewVariable u vs n s
IsVariableTold u vs n sort (Err e) = IsQuantifierFault u vs n sort (λ s. no_test) e

abbrev pub IsQuantifiedTold : Universe → Variables → List ℕ → List ℕ → Formula → Result (List ℕ × SortId × Box built.Formula Global) SortFault → Type 0
IsQuantifiedTold u vs n sort f (Ok q) =
    (q.0 ≡ n) × IsSortNamed u sort q.1 × IsNewVariable u vs n q.1 × IsStatement u (vs ++ (n, q.1) ∷ []) f (statement_of q.2.value) × IsWellSorted u (vs ++ (n, q.1) ∷ []) (statement_of q.2.value)
IsQuantifiedTold u vs n sort f (Err e) = IsFaultOf (IsQuantifierFault u vs n sort (λ s. IsFormulaFault u (vs ++ (n, s) ∷ []) f)) e

abbrev pub IsBoxedTold : Universe → Variables → Formula → Result (Box built.Formula Global) SortFault → Type 0
IsBoxedTold u vs f (Ok g) = IsStatement u vs f (statement_of g.value) × IsWellSorted u vs (statement_of g.value)
IsBoxedTold u vs f (Err e) = IsFaultOf (IsFormulaFault u vs f) e

abbrev pub AreFormulasTold : Universe → Variables → Formulas → Result (Vec built.Formula Global) SortFault → Type 0
AreFormulasTold u vs fs (Ok gs) = AreStatements u vs fs (views.statements_of (map statement_of gs.items)) × AreWellSorted u vs (views.statements_of (map statement_of gs.items))
AreFormulasTold u vs fs (Err e) = IsFaultOf (AreFormulasFault u vs fs) e
