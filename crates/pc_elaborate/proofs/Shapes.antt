-- What stands for an item or a formula, by its form.
use Rattle.std.proofs.Common.{◌≡◌, ◌⊎◌, ℕ, pos, List, [], ◌∷◌, ◌++◌, Some, slice_get, IsSomeAnd, refl, inl, inr}
use Rattle.pc_formula.specs.Tree as tree
use Rattle.pc_formula.specs.Tree.{for_all, exists, counting, iff, implies, or, and, not, compare, in_table, no_part, part, integer, named, no_item, one_item, items_of, name_value, integer_value}
use Rattle.pc_sheet.specs.Sheet as plain
use Rattle.pc_sheet.specs.Sheet.{Universe}
use Rattle.pc_sheet.specs.Sizes.{values_at}
use Rattle.pc_sheet.specs.Views.{counting_of}
use Rattle.pc_sheet.specs.WellSorted.{Variables, IsListed}
use Rattle.pc_sheet.specs.declared.ids.SortId.{SortId}
use Rattle.pc_sheet.specs.declared.ids.TableId.{TableId}
use Rattle.pc_sheet.specs.declared.ids.FamilyId.{FamilyId}
use Rattle.pc_sheet.specs.declared.ids.ValueId.{ValueId}
use Rattle.pc_elaborate.specs.Elaboration.{IsSortNamed, IsTableNamed, IsFamilyNamed, TakesArguments, StandsForValue, IsItem, is_number, is_variable, is_value, is_application, IsArgument, is_integer, is_item, AreArguments, no_arguments, one_argument, IsSum, IsStatement, is_comparison, is_table_atom, is_negation, is_conjunction, is_disjunction, is_implication, is_equivalence, is_universal, is_existential, is_counting, AreStatements, no_statements_left, one_statement}

module _ (u : Universe) (vs : Variables) where
  abbrev pub ArgumentsShape : List SortId → tree.Items → plain.Items → Type 0
  ArgumentsShape ss no_item xs = (ss ≡ []) × (xs ≡ plain.no_items)
  ArgumentsShape ss (one_item a items) xs =
      (s : SortId) × (ts : List SortId) × (x : plain.Item) × (ys : plain.Items) × (ss ≡ s ∷ ts) × (xs ≡ plain.item x ys) × IsArgument u vs s a x × AreArguments u vs ts items ys

  pub arguments_shape : (ss : List SortId) (items : tree.Items) (xs : plain.Items) → AreArguments u vs ss items xs → ArgumentsShape ss items xs
  arguments_shape ss items xs no_arguments = (refl, refl)
  arguments_shape ss items xs (one_argument s ts a more x rest h k) = (s, ts, x, rest, refl, refl, h, k)

  abbrev pub ArgumentShape : SortId → tree.Item → plain.Item → Type 0
  ArgumentShape s (integer z) x = (v : ValueId) × (x ≡ plain.constant s v) × StandsForValue u s (integer_value z) v
  ArgumentShape s (named n items) x = IsItem u vs (named n items) x

  pub argument_shape : (s : SortId) (a : tree.Item) (x : plain.Item) → IsArgument u vs s a x → ArgumentShape s a x
  argument_shape s a x (is_integer t z v h) = (v, refl, h)
  argument_shape s a x (is_item t n items y h) = h

  -- a bare name's item is a variable, a value or a family's only cell
  abbrev pub IsVariableItem : List ℕ → plain.Item → Type 0
  IsVariableItem n x = (k : ℕ) × (s : SortId) × (x ≡ plain.variable k) × (slice_get vs k ≡ Some (n, s))

  abbrev pub IsValueItem : List ℕ → plain.Item → Type 0
  IsValueItem n x = (s : SortId) × (v : ValueId) × (x ≡ plain.constant s v) × IsListed (values_at u s) × StandsForValue u s (name_value n) v

  abbrev pub IsApplicationItem : List ℕ → tree.Items → plain.Item → Type 0
  IsApplicationItem n items x = (f : FamilyId) × (ss : List SortId) × (xs : plain.Items) × (x ≡ plain.cell f xs) × IsFamilyNamed u n f × TakesArguments u f ss × AreArguments u vs ss items xs

  abbrev pub ItemShape : tree.Item → plain.Item → Type 0
  ItemShape (integer z) x = x ≡ plain.number z
  ItemShape (named n no_item) x = IsVariableItem n x ⊎ (IsValueItem n x ⊎ IsApplicationItem n no_item x)
  ItemShape (named n (one_item a items)) x = IsApplicationItem n (one_item a items) x

  pub item_shape : (i : tree.Item) (x : plain.Item) → IsItem u vs i x → ItemShape i x
  item_shape i x (is_number z) = refl
  item_shape i x (is_variable n k s h) = inl (k, s, refl, h)
  item_shape i x (is_value n s v h k) = inr (inl (s, v, refl, h, k))
  item_shape i x (is_application n f ss items xs h k m) = by items m
    where
      by : (items : tree.Items) → AreArguments u vs ss items xs → ItemShape (named n items) (plain.cell f xs)
      by no_item m = inr (inr (f, ss, xs, refl, h, k, m))
      by (one_item a more) m = (f, ss, xs, refl, h, k, m)

module _ (u : Universe) where
  abbrev pub Shape : Variables → tree.Formula → plain.Statement → Type 0
  Shape vs (for_all n sort f) s = (t : SortId) × (a : plain.Statement) × (s ≡ plain.for_all n t a) × IsSortNamed u sort t × IsStatement u (vs ++ (n, t) ∷ []) f a
  Shape vs (exists n sort f) s = (t : SortId) × (a : plain.Statement) × (s ≡ plain.exists n t a) × IsSortNamed u sort t × IsStatement u (vs ++ (n, t) ∷ []) f a
  Shape vs (counting m z n sort f) s = (k : ℕ) × (t : SortId) × (a : plain.Statement) × (z ≡ pos k) × (s ≡ plain.counts (counting_of m k) n t a) × IsSortNamed u sort t × IsStatement u (vs ++ (n, t) ∷ []) f a
  Shape vs (iff f g) s = (a : plain.Statement) × (b : plain.Statement) × (s ≡ plain.iff a b) × IsStatement u vs f a × IsStatement u vs g b
  Shape vs (implies f g) s = (a : plain.Statement) × (b : plain.Statement) × (s ≡ plain.implies a b) × IsStatement u vs f a × IsStatement u vs g b
  Shape vs (or fs) s = (ss : plain.Statements) × (s ≡ plain.some_of ss) × AreStatements u vs fs ss
  Shape vs (and fs) s = (ss : plain.Statements) × (s ≡ plain.all_of ss) × AreStatements u vs fs ss
  Shape vs (not f) s = (a : plain.Statement) × (s ≡ plain.negation a) × IsStatement u vs f a
  Shape vs (compare l op r) s = (x : plain.Sum) × (y : plain.Sum) × (s ≡ plain.compare x op y) × IsSum u vs l x × IsSum u vs r y
  Shape vs (in_table n items) s =
      (t : TableId) × (ss : List SortId) × (xs : plain.Items) × (s ≡ plain.in_table t xs) × IsTableNamed u n t × IsSomeAnd (slice_get u.tables t.0) (λ table. table.sorts ≡ ss) × AreArguments u vs ss (items_of items) xs

  pub shape : (vs : Variables) (f : tree.Formula) (s : plain.Statement) → IsStatement u vs f s → Shape vs f s
  shape vs f s (is_comparison ws l r op x y h k) = (x, y, refl, h, k)
  shape vs f s (is_table_atom ws n items t ss xs h k m) = (t, ss, xs, refl, h, k, m)
  shape vs f s (is_negation ws g a h) = (a, refl, h)
  shape vs f s (is_conjunction ws fs ss h) = (ss, refl, h)
  shape vs f s (is_disjunction ws fs ss h) = (ss, refl, h)
  shape vs f s (is_implication ws g h a b k m) = (a, b, refl, k, m)
  shape vs f s (is_equivalence ws g h a b k m) = (a, b, refl, k, m)
  shape vs f s (is_universal ws n sort g t b h k) = (t, b, refl, h, k)
  shape vs f s (is_existential ws n sort g t b h k) = (t, b, refl, h, k)
  shape vs f s (is_counting ws m k n sort g t b h l) = (k, t, b, refl, refl, h, l)

  abbrev pub PartsShape : Variables → tree.Formulas → plain.Statements → Type 0
  PartsShape vs no_part ss = ss ≡ plain.no_statements
  PartsShape vs (part f fs) ss = (s : plain.Statement) × (rest : plain.Statements) × (ss ≡ plain.statement s rest) × IsStatement u vs f s × AreStatements u vs fs rest

  pub parts_shape : (vs : Variables) (fs : tree.Formulas) (ss : plain.Statements) → AreStatements u vs fs ss → PartsShape vs fs ss
  parts_shape vs fs ss (no_statements_left ws) = refl
  parts_shape vs fs ss (one_statement ws f gs s rest h k) = (s, rest, refl, h, k)
