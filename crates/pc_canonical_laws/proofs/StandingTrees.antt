-- The tree of a well-sorted statement stands for it.
use Rattle.std.proofs.Common.{◌≡◌, ℕ, ◌<◌, pos, ◌+ℤ◌, List, [], ◌∷◌, ◌++◌, length, map, All, Option, None, Some, slice_get, slice_index_or, IsSomeAnd, refl, sym, subst, ap, ◌∙◌, inl, inr}
use Rattle.std.specs.Prelude.{unwrap_or}
use Rattle.std.proofs.lemmas.List.Elements.{All-head, All-tail}
use Rattle.std.proofs.lemmas.Option.{slice_get-get_or, slice_get_within, unwrap_or-slice_get}
use Rattle.pc_name.specs.declared.sign.Op.{Op}
use Rattle.pc_name.specs.declared.sign.Sign.{Sign}
use Rattle.pc_formula.specs.Tree.{named, no_item, one_item, items_of, name_value, integer_value}
use Rattle.pc_sheet.specs.Sheet.{Universe, Values, listed, range, Family, Item, Items, no_items, item, variable, constant, number, cell, Sum, Counting, no_more_than, no_fewer_than, of_first, Statement, Statements, no_statements, statement, compare, in_table, negation, all_of, some_of, implies, iff, for_all, exists, counts}
use Rattle.pc_sheet.specs.Sizes.{count_of, values_at}
use Rattle.pc_sheet.specs.Views.{counting_of}
use Rattle.pc_sheet.specs.WellSorted.{Variables, IsListed, IsOfSort, AreOfSorts, IsInteger, IsIntegerSum, IsValueOf, AreComparable, IsBound, IsWellSorted, AreWellSorted}
use Rattle.pc_sheet.specs.declared.ids.SortId.{SortId}
use Rattle.pc_sheet.specs.declared.ids.TableId.{TableId}
use Rattle.pc_sheet.specs.declared.ids.FamilyId.{FamilyId}
use Rattle.pc_sheet.specs.declared.ids.ValueId.{ValueId}
use Rattle.pc_elaborate.specs.Elaboration.{IsSortNamed, IsTableNamed, IsFamilyNamed, IsValueAmong, IsItem, is_number, is_variable, is_value, is_application, IsArgument, is_integer, is_item, AreArguments, no_arguments, one_argument, AreAdded, IsSum, IsStatement, is_comparison, is_table_atom, is_negation, is_conjunction, is_disjunction, is_implication, is_equivalence, is_universal, is_existential, is_counting, AreStatements, no_statements_left, one_statement}
use Rattle.pc_writer.specs.FormulaText.{bound_of, is_at_most, table_at, family_at, sort_name, variable_at}
use Rattle.pc_writer.proofs.Names.{there_within, place_there}
use Rattle.pc_canonical_laws.specs.Tree.{value_tree, item_tree, item_trees, argument_trees, added_tree, side_tree, statement_tree, part_trees}

-- ---- what stands at a number

taken_apart : {A : Type 0} {C : Type 0} (found : Option A) (P : A → Type 0) → IsSomeAnd found P → ((x : A) → found ≡ Some x → P x → C) → C
taken_apart None P there then = absurd there
taken_apart (Some x) P there then = then x refl there

some_at : {A : Type 0} (found : Option A) (P : A → Type 0) (x : A) → found ≡ Some x → P x → IsSomeAnd found P
some_at found P x is holds = subst (λ o. IsSomeAnd o P) (sym is) holds

module _ (u : Universe) where
  pub sort_stands : (s : SortId) → s.0 < length u.sorts → IsSortNamed u (sort_name u s) s
  sort_stands s below = place_there u.sorts s.0 (record { name = []; values = listed [] }) (λ sort. sort.name ≡ sort_name u s) below refl

  table_stands : (t : TableId) → t.0 < length u.tables → IsTableNamed u (table_at u t).name t
  table_stands t below = place_there u.tables t.0 (record { name = []; sorts = []; rows = [] }) (λ table. table.name ≡ (table_at u t).name) below refl

  family_stands : (f : FamilyId) → f.0 < length u.families → IsFamilyNamed u (family_at u f).name f
  family_stands f below = place_there u.families f.0 (record { name = []; sorts = []; result_sort = record { 0 = 0 } }) (λ family. family.name ≡ (family_at u f).name) below refl

-- ---- items

module _ (u : Universe) (vs : Variables) where
  variable_stands : (k : ℕ) → k < length vs → IsItem u vs (named (variable_at vs k) no_item) (variable k)
  variable_stands k below =
      let none : List ℕ × SortId = ([], record { 0 = 0 }) in
      is_variable (variable_at vs k) k (slice_index_or vs k none).1 (slice_get-get_or vs k none below)

  -- a value as an argument
  value_given : (s : SortId) (v : ValueId) (values : Values) → values_at u s ≡ values → v.0 < count_of values → IsArgument u vs s (value_tree values v) (constant s v)
  value_given s v (listed names) is below =
      let name = unwrap_or (slice_get names v.0) [] in
      let here : slice_get names v.0 ≡ Some name = slice_get-get_or names v.0 [] below ∙ ap Some (sym (unwrap_or-slice_get names v.0 [])) in
      is_item s name no_item (constant s v) (is_value name s v (subst IsListed (sym is) tt) (subst (λ vals. IsValueAmong vals (name_value name) v) (sym is) here))
  value_given s v (range low high) is below =
      is_integer s (low +ℤ pos v.0) v (subst (λ vals. IsValueAmong vals (integer_value (low +ℤ pos v.0)) v) (sym is) (refl, below))

  -- a listed value by itself
  value_alone : (s : SortId) (v : ValueId) (values : Values) → values_at u s ≡ values → IsListed values → v.0 < count_of values → IsItem u vs (value_tree values v) (constant s v)
  value_alone s v (listed names) is lists below =
      let name = unwrap_or (slice_get names v.0) [] in
      let here : slice_get names v.0 ≡ Some name = slice_get-get_or names v.0 [] below ∙ ap Some (sym (unwrap_or-slice_get names v.0 [])) in
      is_value name s v (subst IsListed (sym is) tt) (subst (λ vals. IsValueAmong vals (name_value name) v) (sym is) here)
  value_alone s v (range low high) is lists below = absurd lists

  family_applied : (f : FamilyId) (xs : Items) (family : Family) → slice_get u.families f.0 ≡ Some family → AreArguments u vs family.sorts (item_trees u vs xs) xs → IsItem u vs (item_tree u vs (cell f xs)) (cell f xs)
  family_applied f xs family is given =
      is_application (family_at u f).name f family.sorts (item_trees u vs xs) xs (family_stands u f (slice_get_within u.families f.0 family is))
      (some_at (slice_get u.families f.0) (λ other. other.sorts ≡ family.sorts) family is refl) given

  mutual
    argument_stands : (x : Item) (s : SortId) → IsOfSort u vs x s → IsArgument u vs s (item_tree u vs x) x
    argument_stands (variable k) s sorted = is_item s (variable_at vs k) no_item (variable k) (variable_stands k (there_within vs k (λ v. v.1 ≡ s) sorted))
    argument_stands (constant t v) s sorted = subst (λ r. IsArgument u vs r (value_tree (values_at u t) v) (constant t v)) sorted.0 (value_given t v (values_at u t) refl sorted.1)
    argument_stands (number z) s sorted = absurd sorted
    argument_stands (cell f xs) s sorted =
        is_item s (family_at u f).name (item_trees u vs xs) (cell f xs)
        (taken_apart (slice_get u.families f.0) (λ family. (family.result_sort ≡ s) × AreOfSorts u vs xs family.sorts) sorted (λ family is both. family_applied f xs family is (arguments_stand xs family.sorts both.1)))

    arguments_stand : (xs : Items) (ss : List SortId) → AreOfSorts u vs xs ss → AreArguments u vs ss (item_trees u vs xs) xs
    arguments_stand no_items [] sorted = no_arguments
    arguments_stand no_items (s ∷ ss) sorted = absurd sorted
    arguments_stand (item x xs) [] sorted = absurd sorted
    arguments_stand (item x xs) (s ∷ ss) sorted = one_argument s ss (item_tree u vs x) (item_trees u vs xs) x xs (argument_stands x s sorted.0) (arguments_stand xs ss sorted.1)

  application_stands : (f : FamilyId) (xs : Items) (s : SortId) → IsOfSort u vs (cell f xs) s → IsItem u vs (item_tree u vs (cell f xs)) (cell f xs)
  application_stands f xs s sorted =
      taken_apart (slice_get u.families f.0) (λ family. (family.result_sort ≡ s) × AreOfSorts u vs xs family.sorts) sorted (λ family is both. family_applied f xs family is (arguments_stand xs family.sorts both.1))

  same_arguments : (xs : Items) → item_trees u vs xs ≡ items_of (argument_trees u vs xs)
  same_arguments no_items = refl
  same_arguments (item x xs) = ap (one_item (item_tree u vs x)) (same_arguments xs)

  -- ---- sides

  integer_stands : (x : Item) → IsInteger u vs x → IsItem u vs (item_tree u vs x) x
  integer_stands (variable k) (s, sorted, ranges) = variable_stands k (there_within vs k (λ v. v.1 ≡ s) sorted)
  integer_stands (constant t v) whole = absurd whole
  integer_stands (number z) whole = is_number z
  integer_stands (cell f xs) (s, sorted, ranges) = application_stands f xs s sorted

  added_stand : (xs : List (Sign × Item)) → All (λ x. IsInteger u vs x.1) xs → AreAdded u vs (map (added_tree u vs) xs) xs
  added_stand [] all = tt
  added_stand (x ∷ xs) all = (refl, integer_stands x.1 (All-head (λ y. IsInteger u vs y.1) x xs all), added_stand xs (All-tail (λ y. IsInteger u vs y.1) x xs all))

  single_stands : (x : Item) (s : SortId) → IsOfSort u vs x s → IsListed (values_at u s) → IsItem u vs (item_tree u vs x) x
  single_stands (variable k) s sorted lists = variable_stands k (there_within vs k (λ v. v.1 ≡ s) sorted)
  single_stands (constant t v) s sorted lists = value_alone t v (values_at u t) refl (subst (λ r. IsListed (values_at u r)) (sym sorted.0) lists) sorted.1
  single_stands (number z) s sorted lists = absurd sorted
  single_stands (cell f xs) s sorted lists = application_stands f xs s sorted

  sum_stands : (sum : Sum) → IsIntegerSum u vs sum → IsSum u vs (side_tree u vs sum) sum
  sum_stands sum (first, rest, few) = (integer_stands sum.first first, added_stand sum.rest rest)

  value_side : (sum : Sum) (s : SortId) → IsValueOf u vs s sum → IsSum u vs (side_tree u vs sum) sum
  value_side sum s (alone, sorted, lists) =
      (single_stands sum.first s sorted lists, subst (λ xs. AreAdded u vs (map (added_tree u vs) xs) xs) (sym alone) tt)

  sides_stand : (left : Sum) (op : Op) (right : Sum) → AreComparable u vs left op right → IsSum u vs (side_tree u vs left) left × IsSum u vs (side_tree u vs right) right
  sides_stand left op right (inl (integers, others)) = (sum_stands left integers, sum_stands right others)
  sides_stand left op right (inr (equality, (s, value, other))) = (value_side left s value, value_side right s other)

-- ---- statements

-- what a rule may count, at most or at least
same_counting : (c : Counting) → IsBound c → counting_of (is_at_most c) (bound_of c) ≡ c
same_counting (no_more_than k) bound = refl
same_counting (no_fewer_than k) bound = refl
same_counting (of_first m i j) bound = absurd bound

module _ (u : Universe) where
  table_atom_stands : (vs : Variables) (t : TableId) (xs : Items) → IsSomeAnd (slice_get u.tables t.0) (λ table. AreOfSorts u vs xs table.sorts) → IsStatement u vs (statement_tree u vs (in_table t xs)) (in_table t xs)
  table_atom_stands vs t xs sorted =
      taken_apart (slice_get u.tables t.0) (λ table. AreOfSorts u vs xs table.sorts) sorted (λ table is items.
      is_table_atom vs (table_at u t).name (argument_trees u vs xs) t table.sorts xs
      (table_stands u t (there_within u.tables t.0 (λ table. AreOfSorts u vs xs table.sorts) sorted))
      (some_at (slice_get u.tables t.0) (λ other. other.sorts ≡ table.sorts) table is refl)
      (subst (λ trees. AreArguments u vs table.sorts trees xs) (same_arguments u vs xs) (arguments_stand u vs xs table.sorts items)))

  mutual
    pub statement_stands : (vs : Variables) (s : Statement) → IsWellSorted u vs s → IsStatement u vs (statement_tree u vs s) s
    statement_stands vs (compare left op right) sorted =
        let both = sides_stand u vs left op right sorted.0 in
        is_comparison vs (side_tree u vs left) (side_tree u vs right) op left right both.0 both.1
    statement_stands vs (in_table t xs) sorted = table_atom_stands vs t xs sorted.0
    statement_stands vs (negation s) sorted = is_negation vs (statement_tree u vs s) s (statement_stands vs s sorted)
    statement_stands vs (all_of ss) sorted = is_conjunction vs (part_trees u vs ss) ss (parts_stand vs ss sorted.1)
    statement_stands vs (some_of ss) sorted = is_disjunction vs (part_trees u vs ss) ss (parts_stand vs ss sorted.1)
    statement_stands vs (implies s t) sorted =
        is_implication vs (statement_tree u vs s) (statement_tree u vs t) s t (statement_stands vs s sorted.0) (statement_stands vs t sorted.1)
    statement_stands vs (iff s t) sorted =
        is_equivalence vs (statement_tree u vs s) (statement_tree u vs t) s t (statement_stands vs s sorted.0) (statement_stands vs t sorted.1)
    statement_stands vs (for_all n s body) sorted =
        is_universal vs n (sort_name u s) (statement_tree u (vs ++ (n, s) ∷ []) body) s body (sort_stands u s sorted.0.sort) (statement_stands (vs ++ (n, s) ∷ []) body sorted.1)
    statement_stands vs (exists n s body) sorted =
        is_existential vs n (sort_name u s) (statement_tree u (vs ++ (n, s) ∷ []) body) s body (sort_stands u s sorted.0.sort) (statement_stands (vs ++ (n, s) ∷ []) body sorted.1)
    statement_stands vs (counts c n s body) sorted =
        subst (λ d. IsStatement u vs (statement_tree u vs (counts c n s body)) (counts d n s body)) (same_counting c sorted.0)
        (is_counting vs (is_at_most c) (bound_of c) n (sort_name u s) (statement_tree u (vs ++ (n, s) ∷ []) body) s body (sort_stands u s sorted.1.sort) (statement_stands (vs ++ (n, s) ∷ []) body sorted.2))

    parts_stand : (vs : Variables) (ss : Statements) → AreWellSorted u vs ss → AreStatements u vs (part_trees u vs ss) ss
    parts_stand vs no_statements sorted = no_statements_left vs
    parts_stand vs (statement s ss) sorted = one_statement vs (statement_tree u vs s) (part_trees u vs ss) s ss (statement_stands vs s sorted.0) (parts_stand vs ss sorted.1)
