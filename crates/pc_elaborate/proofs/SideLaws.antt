-- What a side or an atom stands for is unique, and is beside no fault where it is well sorted.
use Rattle.std.proofs.Common.{◌≡◌, ◌⊎◌, ℕ, ◌+◌, List, [], ◌∷◌, Bool, true, false, slice_get, IsSomeAnd, All, length, ap₂, ◌∙◌, sym, subst, refl, inl, inr}
use Rattle.std.proofs.lemmas.List.Elements.{All-head, All-tail}
use Rattle.pc_name.specs.declared.sign.Op.{Op}
use Rattle.pc_name.specs.declared.sign.Sign.{Sign}
use Rattle.pc_formula.specs.Tree as tree
use Rattle.pc_formula.specs.Tree.{integer, named, no_item, one_item}
use Rattle.pc_sheet.specs.Sheet as plain
use Rattle.pc_sheet.specs.Sheet.{Universe, Table}
use Rattle.pc_sheet.specs.Sizes.{values_at}
use Rattle.pc_sheet.specs.WellSorted.{Variables, IsRange, IsOfSort, AreOfSorts, IsInteger, IsSmallNumber, IsIntegerSum, IsValueOf, AreComparable, ReadsFew, reads_in_sum, reads_in_items}
use Rattle.pc_sheet.specs.declared.ids.SortId.{SortId}
use Rattle.pc_sheet.specs.declared.ids.TableId.{TableId}
use Rattle.pc_books.specs.declared.names.Named.TheVariants as names
use Rattle.pc_books.proofs.NamesLemmas.{name_is_declared}
use Rattle.pc_elaborate.specs.declared.fault.SortFault.{SortFault}
use Rattle.pc_elaborate.specs.declared.fault.SortFault.TheVariants.{WrongArity, WrongSort, Limit}
use Rattle.pc_sheet.specs.declared.limits.Limited.TheVariants.{Number, Reads}
use Rattle.pc_elaborate.specs.Tests.{no_test, test, part}
use Rattle.pc_elaborate.specs.Outcome.{HasUniqueNames}
use Rattle.pc_elaborate.specs.inside.Scope.{IsScope}
use Rattle.pc_elaborate.specs.Elaboration.{IsTableNamed, IsItem, IsArgument, AreArguments, AreAdded, IsSum}
use Rattle.pc_elaborate.specs.FormulaFaults.{IsSomeTable, IsNameFault, IsSortedItem, IsSortedArgument, IsArgumentFault, AreArgumentsFault, IsItemFault, count_items, is_several, IsSideItem, IsSideItemFault, AreAddedFault, IsSideFault, AreAddedItems, IsSide, AreSums, IsComparisonFault, AreSortedArguments, HasTable, GivesArguments, IsTableAtomFault}
use Rattle.pc_elaborate.proofs.Testing.{IsOne, IsNever, none_one, none_never, test_one, test_never, part_one, part_never}
use Rattle.pc_elaborate.proofs.Values.{both_at, table_one, name_fault_one, name_fault_never}
use Rattle.pc_elaborate.proofs.Shapes.{item_shape, arguments_shape}
use Rattle.pc_elaborate.proofs.ItemLaws.{item_one, arguments_one, item_never, argument_never, item_fault_one, arguments_fault_one, as_many}

module _ (u : Universe) (vs : Variables) where
  named_no_number : (n : List ℕ) (items : tree.Items) (z : plain.Item) → IsItem u vs (named n items) z → IsInteger u vs z → (s : SortId) × IsOfSort u vs z s × IsRange (values_at u s)
  named_no_number n items (plain.variable k) h i = i
  named_no_number n items (plain.constant s v) h i = absurd i
  named_no_number n items (plain.cell f xs) h i = i
  named_no_number n no_item (plain.number z) h i = elim (item_shape u vs (named n no_item) (plain.number z) h) [
    | inl p ↦ (let e = p.2 in absurd (cc))
    | inr q ↦ elim q [ inl p ↦ (let e = p.2 in absurd (cc)) | inr p ↦ (let e = p.3 in absurd (cc)) ]
  ]
  named_no_number n (one_item a items) (plain.number z) h i = let p = item_shape u vs (named n (one_item a items)) (plain.number z) h in let e = p.3 in absurd (cc)

  -- a name that stands for an integer is of a range
  pub integer_sort : (n : List ℕ) (items : tree.Items) (x : plain.Item) → IsItem u vs (named n items) x → IsInteger u vs x → (s : SortId) × IsOfSort u vs x s × IsRange (values_at u s)
  integer_sort n items x h i = named_no_number n items x h i

  pub integer_passes : (several : Bool) (a : tree.Item) (x : plain.Item) → IsItem u vs a x → IsInteger u vs x → IsSideItem u vs several a
  integer_passes several (integer z) x h i = subst (IsInteger u vs) (item_shape u vs (integer z) x h) i
  integer_passes true (named n items) x h i = (x, h, i)
  integer_passes false (named n items) x h i = let s = integer_sort n items x h i in (x, s.0, h, s.1)

  pub value_passes : (a : tree.Item) (x : plain.Item) (s : SortId) → IsItem u vs a x → IsOfSort u vs x s → IsSideItem u vs false a
  value_passes (integer z) x s h i = absurd (subst (λ y. IsOfSort u vs y s) (item_shape u vs (integer z) x h) i)
  value_passes (named n items) x s h i = (x, s, h, i)

  pub added_passes : (items : List (Sign × tree.Item)) (xs : List (Sign × plain.Item)) → AreAdded u vs items xs → All (λ x. IsInteger u vs x.1) xs → AreAddedItems u vs items
  added_passes [] xs h i = tt
  added_passes (a ∷ items) [] h i = absurd h
  added_passes (a ∷ items) (x ∷ xs) h i =
      (integer_passes true a.1 x.1 h.1 (All-head (λ (y : Sign × plain.Item). IsInteger u vs y.1) x xs i), added_passes items xs h.2 (All-tail (λ (y : Sign × plain.Item). IsInteger u vs y.1) x xs i))

  none_added : (items : List (Sign × tree.Item)) → AreAdded u vs items [] → items ≡ []
  none_added [] h = refl
  none_added (a ∷ items) h = absurd h

  pub side_passes : (side : tree.Side) (x : plain.Sum) → IsSum u vs side x → IsIntegerSum u vs x ⊎ ((s : SortId) × IsValueOf u vs s x) → IsSide u vs side
  side_passes side x h (inl i) = (integer_passes (is_several side.rest) side.first x.first h.0 i.0, added_passes side.rest x.rest h.1 i.1)
  side_passes side x h (inr i) =
      let none = none_added side.rest (subst (AreAdded u vs side.rest) i.1.0 h.1) in
      subst (λ rest. IsSideItem u vs (is_several rest) side.first × AreAddedItems u vs rest) (sym none) (value_passes side.first x.first i.0 h.0 i.1.1, tt)

module _ (u : Universe) (unique : HasUniqueNames u) (vs : Variables) (scope : IsScope u vs) where
  -- ---- sides

  added_one : (items : List (Sign × tree.Item)) (xs ys : List (Sign × plain.Item)) → AreAdded u vs items xs → AreAdded u vs items ys → xs ≡ ys
  added_one [] [] [] h k = refl
  added_one [] [] (y ∷ ys) h k = absurd k
  added_one [] (x ∷ xs) ys h k = absurd h
  added_one (a ∷ items) [] ys h k = absurd h
  added_one (a ∷ items) (x ∷ xs) [] h k = absurd k
  added_one (a ∷ items) (x ∷ xs) (y ∷ ys) h k =
      let sign : x.0 ≡ y.0 = sym h.0 ∙ k.0 in
      let same = item_one u unique vs scope a.1 x.1 y.1 h.1 k.1 in
      ap₂ (λ (p : Sign × plain.Item) (ps : List (Sign × plain.Item)). p ∷ ps) (λ i. (sign i, same i)) (added_one items xs ys h.2 k.2)

  pub sum_one : (side : tree.Side) (x y : plain.Sum) → IsSum u vs side x → IsSum u vs side y → x ≡ y
  sum_one side x y h k = ap₂ (λ (a : plain.Item) (b : List (Sign × plain.Item)). record { first = a; rest = b }) (item_one u unique vs scope side.first x.first y.first h.0 k.0) (added_one side.rest x.rest y.rest h.1 k.1)

  side_item_never : (several : Bool) (a : tree.Item) → IsSideItem u vs several a → IsNever (IsSideItemFault u vs several a)
  side_item_never several (integer z) h = test_never (IsSmallNumber z) (Limit Number) no_test h none_never
  side_item_never true (named n items) h =
      let s = integer_sort u vs n items h.0 h.1 h.2 in
      part_never (IsSortedItem u vs (named n items)) (IsItemFault u vs (named n items)) _ (item_never u unique vs scope (named n items) h.0 s.0 h.1 s.1) (test_never (IsSideItem u vs true (named n items)) WrongSort no_test h none_never)
  side_item_never false (named n items) h =
      part_never (IsSortedItem u vs (named n items)) (IsItemFault u vs (named n items)) _ (item_never u unique vs scope (named n items) h.0 h.1 h.2 h.3) (test_never (IsSideItem u vs false (named n items)) WrongSort no_test h none_never)

  side_item_one : (several : Bool) (a : tree.Item) → IsOne (IsSideItemFault u vs several a)
  side_item_one several (integer z) = test_one (IsSmallNumber z) (Limit Number) no_test none_one
  side_item_one several (named n items) =
      part_one (IsSortedItem u vs (named n items)) (IsItemFault u vs (named n items)) _ (λ h. item_never u unique vs scope (named n items) h.0 h.1 h.2 h.3) (item_fault_one u unique vs scope (named n items))
      (test_one (IsSideItem u vs several (named n items)) WrongSort no_test none_one)

  added_never : (items : List (Sign × tree.Item)) → AreAddedItems u vs items → IsNever (AreAddedFault u vs items)
  added_never [] h = none_never
  added_never (a ∷ items) h = part_never (IsSideItem u vs true a.1) (IsSideItemFault u vs true a.1) (AreAddedFault u vs items) (side_item_never true a.1 h.0) (added_never items h.1)

  added_fault_one : (items : List (Sign × tree.Item)) → IsOne (AreAddedFault u vs items)
  added_fault_one [] = none_one
  added_fault_one (a ∷ items) = part_one (IsSideItem u vs true a.1) (IsSideItemFault u vs true a.1) (AreAddedFault u vs items) (side_item_never true a.1) (side_item_one true a.1) (added_fault_one items)

  side_never : (side : tree.Side) → IsSide u vs side → IsNever (IsSideFault u vs side)
  side_never side h =
      part_never (IsSideItem u vs (is_several side.rest) side.first) (IsSideItemFault u vs (is_several side.rest) side.first) (AreAddedFault u vs side.rest)
      (side_item_never (is_several side.rest) side.first h.0) (added_never side.rest h.1)

  side_fault_one : (side : tree.Side) → IsOne (IsSideFault u vs side)
  side_fault_one side =
      part_one (IsSideItem u vs (is_several side.rest) side.first) (IsSideItemFault u vs (is_several side.rest) side.first) (AreAddedFault u vs side.rest)
      (side_item_never (is_several side.rest) side.first) (side_item_one (is_several side.rest) side.first) (added_fault_one side.rest)

  -- ---- comparisons

  module _ (left right : tree.Side) (op : Op) where
    abbrev Behind : plain.Sum → plain.Sum → SortFault → Type 0
    Behind x y = test (ReadsFew (reads_in_sum x + reads_in_sum y)) (Limit Reads) (test (AreComparable u vs x op y) WrongSort no_test)

    behind_sums_one : IsOne (AreSums u vs left right Behind)
    behind_sums_one e f h k =
        let x = sum_one left k.0 h.0 k.2 h.2 in
        let y = sum_one right k.1 h.1 k.3 h.3 in
        test_one (ReadsFew (reads_in_sum h.0 + reads_in_sum h.1)) (Limit Reads) _ (test_one (AreComparable u vs h.0 op h.1) WrongSort no_test none_one) e f h.4
        (subst (λ b. Behind h.0 b f) y (subst (λ a. Behind a k.1 f) x k.4))

    behind_sums_never : (x y : plain.Sum) → IsSum u vs left x → IsSum u vs right y → ReadsFew (reads_in_sum x + reads_in_sum y) → AreComparable u vs x op y → IsNever (AreSums u vs left right Behind)
    behind_sums_never x y hx hy few comparable e h =
        let a = sum_one left h.0 x h.2 hx in
        let b = sum_one right h.1 y h.3 hy in
        test_never (ReadsFew (reads_in_sum x + reads_in_sum y)) (Limit Reads) _ few (test_never (AreComparable u vs x op y) WrongSort no_test comparable none_never) e
        (subst (λ t. Behind x t e) b (subst (λ t. Behind t h.1 e) a h.4))

    pub comparison_one : IsOne (IsComparisonFault u vs left op right)
    comparison_one =
        part_one (IsSide u vs left) (IsSideFault u vs left) _ (side_never left) (side_fault_one left)
        (part_one (IsSide u vs right) (IsSideFault u vs right) _ (side_never right) (side_fault_one right) behind_sums_one)

    left_sorted : (x y : plain.Sum) → AreComparable u vs x op y → IsIntegerSum u vs x ⊎ ((s : SortId) × IsValueOf u vs s x)
    left_sorted x y (inl h) = inl h.0
    left_sorted x y (inr h) = inr (h.1.0, h.1.1)

    right_sorted : (x y : plain.Sum) → AreComparable u vs x op y → IsIntegerSum u vs y ⊎ ((s : SortId) × IsValueOf u vs s y)
    right_sorted x y (inl h) = inl h.1
    right_sorted x y (inr h) = inr (h.1.0, h.1.2)

    pub comparison_never : (x y : plain.Sum) → IsSum u vs left x → IsSum u vs right y → ReadsFew (reads_in_sum x + reads_in_sum y) → AreComparable u vs x op y → IsNever (IsComparisonFault u vs left op right)
    comparison_never x y hx hy few comparable =
        part_never (IsSide u vs left) (IsSideFault u vs left) _ (side_never left (side_passes u vs left x hx (left_sorted x y comparable)))
        (part_never (IsSide u vs right) (IsSideFault u vs right) _ (side_never right (side_passes u vs right y hy (right_sorted x y comparable))) (behind_sums_never x y hx hy few comparable))

  -- ---- table atoms

  sorted_arguments_never : (items : tree.Items) (ss : List SortId) → AreSortedArguments u vs ss items → IsNever (AreArgumentsFault u vs ss items)
  sorted_arguments_never no_item ss h = none_never
  sorted_arguments_never (one_item a items) [] h = none_never
  sorted_arguments_never (one_item a items) (s ∷ ss) h =
      part_never (IsSortedArgument u vs s a) (IsArgumentFault u vs s a) (AreArgumentsFault u vs ss items) (argument_never u unique vs scope a s h.0.0 h.0.1 h.0.2) (sorted_arguments_never items ss h.1)

  pub arguments_pass : (items : tree.Items) (ss : List SortId) (xs : plain.Items) → AreArguments u vs ss items xs → AreOfSorts u vs xs ss → AreSortedArguments u vs ss items
  arguments_pass no_item ss xs h sorted = tt
  arguments_pass (one_item a items) [] xs h sorted = let p = arguments_shape u vs [] (one_item a items) xs h in let e = p.4 in absurd (cc)
  arguments_pass (one_item a items) (s ∷ ss) xs h sorted =
      let p = arguments_shape u vs (s ∷ ss) (one_item a items) xs h in
      let both : s ∷ ss ≡ p.0 ∷ p.1 = p.4 in
      let first : p.0 ≡ s = cc in
      let rest : p.1 ≡ ss = cc in
      let inside : AreOfSorts u vs (plain.item p.2 p.3) (s ∷ ss) = subst (λ ys. AreOfSorts u vs ys (s ∷ ss)) p.5 sorted in
      ((p.2, subst (λ r. IsArgument u vs r a p.2) first p.6, inside.0), arguments_pass items ss p.3 (subst (λ rs. AreArguments u vs rs items p.3) rest p.7) inside.1)

  module _ (n : List ℕ) (items : tree.Items) where
    abbrev Given : plain.Items → SortFault → Type 0
    Given xs = test (ReadsFew (reads_in_items xs)) (Limit Reads) no_test

    abbrev InTable : List SortId → SortFault → Type 0
    InTable ss = test (count_items items ≡ length ss) WrongArity (part (AreSortedArguments u vs ss items) (AreArgumentsFault u vs ss items) (GivesArguments u vs ss items Given))

    given_one : (ss : List SortId) → IsOne (GivesArguments u vs ss items Given)
    given_one ss e f h k =
        let same = arguments_one u unique vs scope items ss k.0 h.0 k.1 h.1 in
        test_one (ReadsFew (reads_in_items h.0)) (Limit Reads) no_test none_one e f h.2 (subst (λ xs. Given xs f) same k.2)

    given_never : (ss : List SortId) (xs : plain.Items) → AreArguments u vs ss items xs → ReadsFew (reads_in_items xs) → IsNever (GivesArguments u vs ss items Given)
    given_never ss xs h few e k =
        let same = arguments_one u unique vs scope items ss k.0 xs k.1 h in
        test_never (ReadsFew (reads_in_items xs)) (Limit Reads) no_test few none_never e (subst (λ ys. Given ys e) same k.2)

    in_table_one : (ss : List SortId) → IsOne (InTable ss)
    in_table_one ss =
        test_one (count_items items ≡ length ss) WrongArity _
        (part_one (AreSortedArguments u vs ss items) (AreArgumentsFault u vs ss items) (GivesArguments u vs ss items Given) (sorted_arguments_never items ss) (arguments_fault_one u unique vs scope items ss) (given_one ss))

    in_table_never : (ss : List SortId) (xs : plain.Items) → AreArguments u vs ss items xs → AreOfSorts u vs xs ss → ReadsFew (reads_in_items xs) → IsNever (InTable ss)
    in_table_never ss xs h sorted few =
        test_never (count_items items ≡ length ss) WrongArity _ (as_many u unique vs scope items ss xs h)
        (part_never (AreSortedArguments u vs ss items) (AreArgumentsFault u vs ss items) (GivesArguments u vs ss items Given) (sorted_arguments_never items ss (arguments_pass items ss xs h sorted)) (given_never ss xs h few))

    -- the sorts of the table of that name
    abbrev HasSorts : TableId → List SortId → Type 0
    HasSorts t ss = IsSomeAnd (slice_get u.tables t.0) (λ table. table.sorts ≡ ss)

    sorts_one : (t r : TableId) (ss rs : List SortId) → IsTableNamed u n t → IsTableNamed u n r → HasSorts t ss → HasSorts r rs → ss ≡ rs
    sorts_one t r ss rs h k hs ks =
        let same = table_one u unique n t r h k in
        both_at (slice_get u.tables t.0) (λ (d : Table). d.sorts) ss rs hs (subst (λ q. HasSorts q rs) (sym same) ks)

    pub table_atom_one : IsOne (IsTableAtomFault u vs n items)
    table_atom_one =
        part_one (IsSomeTable u n) (IsNameFault u n (IsSomeTable u n)) (HasTable u n InTable)
        (λ h. name_fault_never u n (IsSomeTable u n) (name_is_declared u n (names.Table h.0) h.1) h) (name_fault_one u n (IsSomeTable u n))
        (λ e f h k. in_table_one h.1 e f h.4 (subst (λ ss. InTable ss f) (sorts_one k.0 h.0 k.1 h.1 k.2 h.2 k.3 h.3) k.4))

    pub table_atom_never : (t : TableId) (ss : List SortId) (xs : plain.Items) → IsTableNamed u n t → HasSorts t ss → AreArguments u vs ss items xs → AreOfSorts u vs xs ss → ReadsFew (reads_in_items xs) → IsNever (IsTableAtomFault u vs n items)
    table_atom_never t ss xs is has h sorted few =
        part_never (IsSomeTable u n) (IsNameFault u n (IsSomeTable u n)) (HasTable u n InTable) (name_fault_never u n (IsSomeTable u n) (name_is_declared u n (names.Table t) is) (t, is))
        (λ e k. in_table_never ss xs h sorted few e (subst (λ rs. InTable rs e) (sorts_one k.0 t k.1 ss k.2 is k.3 has) k.4))
