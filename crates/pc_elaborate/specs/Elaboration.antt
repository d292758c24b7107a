-- What the names in a tree stand for: cells, values, variables and tables of a universe.
use Rattle.std.specs.Prelude.{◌≡◌, ℕ, ℤ, Bool, ◌<◌, pos, ◌+ℤ◌, List, [], ◌∷◌, ◌++◌, Some, slice_get, IsSomeAnd}
use Rattle.pc_name.specs.declared.sign.Op.{Op}
use Rattle.pc_name.specs.declared.sign.Sign.{Sign}
use Rattle.pc_formula.specs.Tree as tree
use Rattle.pc_formula.specs.Tree.{for_all, exists, counting, iff, implies, or, and, not, compare, in_table, no_part, part, integer, named, no_item, one_item, name_value, integer_value}
use Rattle.pc_sheet.specs.Sheet as plain
use Rattle.pc_sheet.specs.Sheet.{Values, listed, range, Universe}
use Rattle.pc_sheet.specs.Sizes.{values_at, count_of, cell_number}
use Rattle.pc_sheet.specs.Views.{counting_of}
use Rattle.pc_sheet.specs.WellSorted.{Variables, IsListed}
use Rattle.pc_sheet.specs.declared.ids.SortId.{SortId}
use Rattle.pc_sheet.specs.declared.ids.TableId.{TableId}
use Rattle.pc_sheet.specs.declared.ids.FamilyId.{FamilyId}
use Rattle.pc_sheet.specs.declared.ids.CellId.{CellId}
use Rattle.pc_sheet.specs.declared.ids.ValueId.{ValueId}
use Rattle.pc_sheet.specs.declared.ids.Entry.{Entry}

-- ---- names

abbrev pub IsSortNamed : Universe → List ℕ → SortId → Type 0
IsSortNamed u n s = IsSomeAnd (slice_get u.sorts s.0) (λ sort. sort.name ≡ n)

abbrev pub IsTableNamed : Universe → List ℕ → TableId → Type 0
IsTableNamed u n t = IsSomeAnd (slice_get u.tables t.0) (λ table. table.name ≡ n)

abbrev pub IsFamilyNamed : Universe → List ℕ → FamilyId → Type 0
IsFamilyNamed u n f = IsSomeAnd (slice_get u.families f.0) (λ family. family.name ≡ n)

-- the family takes arguments of these sorts
abbrev pub TakesArguments : Universe → FamilyId → List SortId → Type 0
TakesArguments u f ss = IsSomeAnd (slice_get u.families f.0) (λ family. family.sorts ≡ ss)

abbrev pub GivesValuesOf : Universe → FamilyId → SortId → Type 0
GivesValuesOf u f s = IsSomeAnd (slice_get u.families f.0) (λ family. family.result_sort ≡ s)

-- ---- values and cells

-- a listed value by its name, a value of a range by its number
abbrev pub IsValueAmong : Values → tree.Value → ValueId → Type 0
IsValueAmong (listed names) (name_value n) v = slice_get names v.0 ≡ Some n
IsValueAmong (listed names) (integer_value z) v = ⊥
IsValueAmong (range low high) (name_value n) v = ⊥
IsValueAmong (range low high) (integer_value z) v = (z ≡ low +ℤ pos v.0) × (v.0 < count_of (range low high))

abbrev pub StandsForValue : Universe → SortId → tree.Value → ValueId → Type 0
StandsForValue u s x v = IsValueAmong (values_at u s) x v

-- as many values as sorts, each of its sort
abbrev pub AreValuesOf : Universe → List SortId → List tree.Value → List ValueId → Type 0
AreValuesOf u [] [] [] = Unit {0}
AreValuesOf u [] [] (v ∷ vs) = ⊥
AreValuesOf u [] (x ∷ xs) vs = ⊥
AreValuesOf u (s ∷ ss) [] vs = ⊥
AreValuesOf u (s ∷ ss) (x ∷ xs) [] = ⊥
AreValuesOf u (s ∷ ss) (x ∷ xs) (v ∷ vs) = StandsForValue u s x v × AreValuesOf u ss xs vs

-- a family's name with argument values stands for the cell, whose values are of the sort
pub record IsCell (u : Universe) (written : tree.Cell) (c : CellId) (s : SortId) : Type 0 where
  pub family : FamilyId
  pub sorts : List SortId
  pub arguments : List ValueId
  pub named : IsFamilyNamed u written.name family
  pub takes : TakesArguments u family sorts
  pub given : AreValuesOf u sorts written.args arguments
  pub number : c.0 ≡ cell_number u family arguments
  pub gives : GivesValuesOf u family s

-- the cell is that of the universe, of whatever sort
abbrev pub IsCellNamed : Universe → tree.Cell → CellId → Type 0
IsCellNamed u written c = (s : SortId) × IsCell u written c s

-- the entry of a cell and a value of its sort
pub record IsEntryNamed (u : Universe) (c : tree.Cell) (v : tree.Value) (e : Entry) : Type 0 where
  pub sort : SortId
  pub cell : IsCell u c e.cell sort
  pub value : StandsForValue u sort v e.value

-- ---- items

mutual
  -- an item stands for a number, an enclosing variable, a listed value, or an application of a family
  pub data IsItem (u : Universe) (vs : Variables) : tree.Item → plain.Item → Type 0 where
    is_number : (z : ℤ) → IsItem u vs (integer z) (plain.number z)
    is_variable : (n : List ℕ) (k : ℕ) (s : SortId) → slice_get vs k ≡ Some (n, s) → IsItem u vs (named n no_item) (plain.variable k)
    is_value : (n : List ℕ) (s : SortId) (v : ValueId) → IsListed (values_at u s) → StandsForValue u s (name_value n) v → IsItem u vs (named n no_item) (plain.constant s v)
    is_application : (n : List ℕ) (f : FamilyId) (ss : List SortId) (items : tree.Items) (xs : plain.Items) → IsFamilyNamed u n f → TakesArguments u f ss → AreArguments u vs ss items xs → IsItem u vs (named n items) (plain.cell f xs)

  -- an argument is an item, but an integer is a value of the asked sort
  pub data IsArgument (u : Universe) (vs : Variables) : SortId → tree.Item → plain.Item → Type 0 where
    is_integer : (s : SortId) (z : ℤ) (v : ValueId) → StandsForValue u s (integer_value z) v → IsArgument u vs s (integer z) (plain.constant s v)
    is_item : (s : SortId) (n : List ℕ) (items : tree.Items) (x : plain.Item) → IsItem u vs (named n items) x → IsArgument u vs s (named n items) x

  pub data AreArguments (u : Universe) (vs : Variables) : List SortId → tree.Items → plain.Items → Type 0 where
    no_arguments : AreArguments u vs [] no_item plain.no_items
    one_argument : (s : SortId) (ss : List SortId) (a : tree.Item) (items : tree.Items) (x : plain.Item) (xs : plain.Items) → IsArgument u vs s a x → AreArguments u vs ss items xs → AreArguments u vs (s ∷ ss) (one_item a items) (plain.item x xs)

-- ---- sides

-- the same signs, before items that stand for these
abbrev pub AreAdded : Universe → Variables → List (Sign × tree.Item) → List (Sign × plain.Item) → Type 0
AreAdded u vs [] [] = Unit {0}
AreAdded u vs [] (x ∷ xs) = ⊥
AreAdded u vs (a ∷ items) [] = ⊥
AreAdded u vs (a ∷ items) (x ∷ xs) = (a.0 ≡ x.0) × IsItem u vs a.1 x.1 × AreAdded u vs items xs

abbrev pub IsSum : Universe → Variables → tree.Side → plain.Sum → Type 0
IsSum u vs side sum = IsItem u vs side.first sum.first × AreAdded u vs side.rest sum.rest

-- ---- formulas

mutual
  -- a formula stands for the statement of the same shape
  pub data IsStatement (u : Universe) : Variables → tree.Formula → plain.Statement → Type 0 where
    is_comparison : (vs : Variables) (l r : tree.Side) (op : Op) (x y : plain.Sum) → IsSum u vs l x → IsSum u vs r y → IsStatement u vs (compare l op r) (plain.compare x op y)
    is_table_atom : (vs : Variables) (n : List ℕ) (items : List tree.Item) (t : TableId) (ss : List SortId) (xs : plain.Items) → IsTableNamed u n t → IsSomeAnd (slice_get u.tables t.0) (λ table. table.sorts ≡ ss) → AreArguments u vs ss (tree.items_of items) xs → IsStatement u vs (in_table n items) (plain.in_table t xs)
    is_negation : (vs : Variables) (f : tree.Formula) (s : plain.Statement) → IsStatement u vs f s → IsStatement u vs (not f) (plain.negation s)
    is_conjunction : (vs : Variables) (fs : tree.Formulas) (ss : plain.Statements) → AreStatements u vs fs ss → IsStatement u vs (and fs) (plain.all_of ss)
    is_disjunction : (vs : Variables) (fs : tree.Formulas) (ss : plain.Statements) → AreStatements u vs fs ss → IsStatement u vs (or fs) (plain.some_of ss)
    is_implication : (vs : Variables) (f g : tree.Formula) (s t : plain.Statement) → IsStatement u vs f s → IsStatement u vs g t → IsStatement u vs (implies f g) (plain.implies s t)
    is_equivalence : (vs : Variables) (f g : tree.Formula) (s t : plain.Statement) → IsStatement u vs f s → IsStatement u vs g t → IsStatement u vs (iff f g) (plain.iff s t)
    is_universal : (vs : Variables) (n sort : List ℕ) (f : tree.Formula) (s : SortId) (t : plain.Statement) → IsSortNamed u sort s → IsStatement u (vs ++ (n, s) ∷ []) f t → IsStatement u vs (for_all n sort f) (plain.for_all n s t)
    is_existential : (vs : Variables) (n sort : List ℕ) (f : tree.Formula) (s : SortId) (t : plain.Statement) → IsSortNamed u sort s → IsStatement u (vs ++ (n, s) ∷ []) f t → IsStatement u vs (exists n sort f) (plain.exists n s t)
    is_counting : (vs : Variables) (m : Bool) (k : ℕ) (n sort : List ℕ) (f : tree.Formula) (s : SortId) (t : plain.Statement) → IsSortNamed u sort s → IsStatement u (vs ++ (n, s) ∷ []) f t → IsStatement u vs (counting m (pos k) n sort f) (plain.counts (counting_of m k) n s t)

  pub data AreStatements (u : Universe) : Variables → tree.Formulas → plain.Statements → Type 0 where
    no_statements_left : (vs : Variables) → AreStatements u vs no_part plain.no_statements
    one_statement : (vs : Variables) (f : tree.Formula) (fs : tree.Formulas) (s : plain.Statement) (ss : plain.Statements) → IsStatement u vs f s → AreStatements u vs fs ss → AreStatements u vs (part f fs) (plain.statement s ss)
