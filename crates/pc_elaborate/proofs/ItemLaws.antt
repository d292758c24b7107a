-- What an item stands for is unique, has one sort, and is beside no fault.
use Rattle.std.proofs.Common.{◌≡◌, ◌⊎◌, ℕ, zero, suc, List, [], ◌∷◌, Option, None, Some, slice_get, IsSomeAnd, length, arith, ap, ap₂, ◌∙◌, sym, subst, inl, inr}
use Rattle.pc_formula.specs.Tree as tree
use Rattle.pc_formula.specs.Tree.{integer, named, no_item, one_item, integer_value}
use Rattle.pc_sheet.specs.Sheet as plain
use Rattle.pc_sheet.specs.Sheet.{Universe, Family, Values, listed, range}
use Rattle.pc_sheet.specs.WellSorted.{Variables, IsListed, IsRange, IsOfSort, AreOfSorts}
use Rattle.pc_sheet.specs.declared.ids.SortId.{SortId}
use Rattle.pc_sheet.specs.declared.ids.FamilyId.{FamilyId}
use Rattle.pc_books.specs.Named.{IsNameOf}
use Rattle.pc_books.specs.declared.names.Named.{Named}
use Rattle.pc_books.specs.declared.names.Named.TheVariants as names
use Rattle.pc_books.proofs.NamesLemmas.{name_is_declared}
use Rattle.pc_elaborate.specs.declared.fault.SortFault.{SortFault}
use Rattle.pc_elaborate.specs.declared.fault.SortFault.TheVariants.{UnknownName, WrongArity, WrongSort}
use Rattle.pc_elaborate.specs.Tests.{no_test, test}
use Rattle.pc_elaborate.specs.Outcome.{HasUniqueNames}
use Rattle.pc_elaborate.specs.inside.Scope.{IsScope}
use Rattle.pc_elaborate.specs.Elaboration.{IsFamilyNamed, TakesArguments, IsItem, IsArgument, AreArguments}
use Rattle.pc_elaborate.specs.FormulaFaults.{IsDeclared, IsSomeSort, IsSomeTable, IsSomeFamily, IsAround, IsSortedItem, IsSortedArgument, count_items, IsNamedFault, IsArgumentFault, AreArgumentsFault, IsItemFault}
use Rattle.pc_elaborate.proofs.Testing.{IsOne, IsNever, none_one, none_never, test_one, test_never, part_one, part_never}
use Rattle.pc_elaborate.proofs.Values.{both_at, value_is_named, integer_one, family_one, value_fault_one, value_fault_never, has_family_one, has_family_never}
use Rattle.pc_elaborate.proofs.Shapes.{IsVariableItem, IsValueItem, IsApplicationItem, ItemShape, item_shape, argument_shape, arguments_shape}

pub never_both_kinds : (vs : Values) → IsListed vs → IsRange vs → ⊥
never_both_kinds (listed ns) h k = k
never_both_kinds (range low high) h k = h

pub bound_at : (vs : Variables) (k : ℕ) (n : List ℕ) (s : SortId) → slice_get vs k ≡ Some (n, s) → IsAround vs n
bound_at [] k n s h = cc
bound_at (v ∷ vs) zero n s h = let e : v ≡ (n, s) = cc in (0, omega arith, ap (λ p. p.0) e)
bound_at (v ∷ vs) (suc k) n s h = let r = bound_at vs k n s h in (suc r.0, omega (arith, r.1), r.2)

-- an item has one sort
pub sort_one : (u : Universe) (vs : Variables) (x : plain.Item) (s t : SortId) → IsOfSort u vs x s → IsOfSort u vs x t → s ≡ t
sort_one u vs (plain.variable k) s t h m = both_at (slice_get vs k) (λ (v : List ℕ × SortId). v.1) s t h m
sort_one u vs (plain.constant r v) s t h m = sym h.0 ∙ m.0
sort_one u vs (plain.number z) s t h m = absurd h
sort_one u vs (plain.cell f xs) s t h m = by (slice_get u.families f.0) h m
  where
    by : (o : Option Family) → IsSomeAnd o (λ d. (d.result_sort ≡ s) × AreOfSorts u vs xs d.sorts) → IsSomeAnd o (λ d. (d.result_sort ≡ t) × AreOfSorts u vs xs d.sorts) → s ≡ t
    by None h m = absurd h
    by (Some d) h m = sym h.0 ∙ m.0

module _ (u : Universe) (unique : HasUniqueNames u) (vs : Variables) (scope : IsScope u vs) where
  -- ---- what a name is

  declared_not_bound : (n : List ℕ) (k : ℕ) (s : SortId) (d : Named) → slice_get vs k ≡ Some (n, s) → ¬ IsNameOf u n d
  declared_not_bound n k s d h is = scope.undeclared n k s h (name_is_declared u n d is)

  variable_alone : (n : List ℕ) (x : plain.Item) (d : Named) → IsVariableItem u vs n x → ¬ IsNameOf u n d
  variable_alone n x d h is = declared_not_bound n h.0 h.1 d h.3 is

  value_not : (n : List ℕ) (x : plain.Item) → IsValueItem u vs n x → (f : FamilyId) → ¬ IsFamilyNamed u n f
  value_not n x h f is = let e = unique n (names.Value h.0 h.1) (names.Family f) (value_is_named u h.0 n h.1 h.4) is in cc

  -- ---- what stands for an item is unique

  abbrev ArgumentsOne : tree.Items → Type 0
  ArgumentsOne items = (ss : List SortId) (xs ys : plain.Items) → AreArguments u vs ss items xs → AreArguments u vs ss items ys → xs ≡ ys

  application_one : (n : List ℕ) (items : tree.Items) → ArgumentsOne items → (x y : plain.Item) → IsApplicationItem u vs n items x → IsApplicationItem u vs n items y → x ≡ y
  application_one n items one x y h k =
      let same = family_one u unique n h.0 k.0 h.4 k.4 in
      let sorts = both_at (slice_get u.families h.0.0) (λ (d : Family). d.sorts) h.1 k.1 h.5 (subst (λ f. TakesArguments u f k.1) (sym same) k.5) in
      let given = one h.1 h.2 k.2 h.6 (subst (λ ss. AreArguments u vs ss items k.2) (sym sorts) k.6) in
      h.3 ∙ ap₂ plain.cell same given ∙ sym k.3

  value_item_one : (n : List ℕ) (x y : plain.Item) → IsValueItem u vs n x → IsValueItem u vs n y → x ≡ y
  value_item_one n x y h k =
      let e = unique n (names.Value h.0 h.1) (names.Value k.0 k.1) (value_is_named u h.0 n h.1 h.4) (value_is_named u k.0 n k.1 k.4) in
      let s : h.0 ≡ k.0 = cc in
      let v : h.1 ≡ k.1 = cc in
      h.2 ∙ ap₂ plain.constant s v ∙ sym k.2

  bare_one : (n : List ℕ) → ArgumentsOne no_item → (x y : plain.Item) → ItemShape u vs (named n no_item) x → ItemShape u vs (named n no_item) y → x ≡ y
  bare_one n one x y (inl h) (inl k) = h.2 ∙ ap plain.variable (scope.different n h.0 k.0 h.1 k.1 h.3 k.3) ∙ sym k.2
  bare_one n one x y (inl h) (inr (inl k)) = absurd (variable_alone n x (names.Value k.0 k.1) h (value_is_named u k.0 n k.1 k.4))
  bare_one n one x y (inl h) (inr (inr k)) = absurd (variable_alone n x (names.Family k.0) h k.4)
  bare_one n one x y (inr (inl h)) (inl k) = absurd (variable_alone n y (names.Value h.0 h.1) k (value_is_named u h.0 n h.1 h.4))
  bare_one n one x y (inr (inl h)) (inr (inl k)) = value_item_one n x y h k
  bare_one n one x y (inr (inl h)) (inr (inr k)) = absurd (value_not n x h k.0 k.4)
  bare_one n one x y (inr (inr h)) (inl k) = absurd (variable_alone n y (names.Family h.0) k h.4)
  bare_one n one x y (inr (inr h)) (inr (inl k)) = absurd (value_not n y k h.0 h.4)
  bare_one n one x y (inr (inr h)) (inr (inr k)) = application_one n no_item one x y h k

  named_one : (n : List ℕ) (items : tree.Items) → ArgumentsOne items → (x y : plain.Item) → IsItem u vs (named n items) x → IsItem u vs (named n items) y → x ≡ y
  named_one n no_item one x y h k = bare_one n one x y (item_shape u vs (named n no_item) x h) (item_shape u vs (named n no_item) y k)
  named_one n (one_item a items) one x y h k = application_one n (one_item a items) one x y (item_shape u vs (named n (one_item a items)) x h) (item_shape u vs (named n (one_item a items)) y k)

  mutual
    pub arguments_one : (items : tree.Items) → ArgumentsOne items
    arguments_one no_item ss xs ys h k = (arguments_shape u vs ss no_item xs h).1 ∙ sym (arguments_shape u vs ss no_item ys k).1
    arguments_one (one_item a items) ss xs ys h k =
        let p = arguments_shape u vs ss (one_item a items) xs h in
        let q = arguments_shape u vs ss (one_item a items) ys k in
        let both : p.0 ∷ p.1 ≡ q.0 ∷ q.1 = sym p.4 ∙ q.4 in
        let s : q.0 ≡ p.0 = cc in
        let ts : q.1 ≡ p.1 = cc in
        let first = argument_one a p.0 p.2 q.2 p.6 (subst (λ r. IsArgument u vs r a q.2) s q.6) in
        let rest = arguments_one items p.1 p.3 q.3 p.7 (subst (λ rs. AreArguments u vs rs items q.3) ts q.7) in
        p.5 ∙ ap₂ plain.item first rest ∙ sym q.5

    argument_one : (a : tree.Item) (s : SortId) (x y : plain.Item) → IsArgument u vs s a x → IsArgument u vs s a y → x ≡ y
    argument_one (integer z) s x y h k =
        let p = argument_shape u vs s (integer z) x h in
        let q = argument_shape u vs s (integer z) y k in
        p.1 ∙ ap (plain.constant s) (integer_one u s z p.0 q.0 p.2 q.2) ∙ sym q.1
    argument_one (named n items) s x y h k = named_one n items (arguments_one items) x y (argument_shape u vs s (named n items) x h) (argument_shape u vs s (named n items) y k)

  pub item_one : (a : tree.Item) (x y : plain.Item) → IsItem u vs a x → IsItem u vs a y → x ≡ y
  item_one (integer z) x y h k = item_shape u vs (integer z) x h ∙ sym (item_shape u vs (integer z) y k)
  item_one (named n items) x y h k = named_one n items (arguments_one items) x y h k

  -- ---- a sorted item has no fault

  pub as_many : (items : tree.Items) (ss : List SortId) (xs : plain.Items) → AreArguments u vs ss items xs → count_items items ≡ length ss
  as_many no_item ss xs h = ap length (sym (arguments_shape u vs ss no_item xs h).0)
  as_many (one_item a items) ss xs h =
      let p = arguments_shape u vs ss (one_item a items) xs h in
      let rest = as_many items p.1 p.3 p.7 in
      let whole = ap length p.4 in
      omega (arith, rest, whole)

  abbrev ArgumentsNever : tree.Items → Type 0
  ArgumentsNever items = (ss : List SortId) (xs : plain.Items) → AreArguments u vs ss items xs → AreOfSorts u vs xs ss → IsNever (AreArgumentsFault u vs ss items)

  abbrev ItemsFault : tree.Items → List SortId → SortFault → Type 0
  ItemsFault items ss = AreArgumentsFault u vs ss items

  -- the sorts of an application's arguments
  pub of_sorts : (f : FamilyId) (ss : List SortId) (xs : plain.Items) (s : SortId) → TakesArguments u f ss → IsOfSort u vs (plain.cell f xs) s → AreOfSorts u vs xs ss
  of_sorts f ss xs s takes h = by (slice_get u.families f.0) takes h
    where
      by : (o : Option Family) → IsSomeAnd o (λ d. d.sorts ≡ ss) → IsSomeAnd o (λ d. (d.result_sort ≡ s) × AreOfSorts u vs xs d.sorts) → AreOfSorts u vs xs ss
      by None k h = absurd h
      by (Some d) k h = subst (AreOfSorts u vs xs) k h.1

  takes_nothing : (f : FamilyId) (ss : List SortId) (xs : plain.Items) → TakesArguments u f ss → AreArguments u vs ss no_item xs → TakesArguments u f []
  takes_nothing f ss xs takes h = subst (TakesArguments u f) (arguments_shape u vs ss no_item xs h).0 takes

  bare_passes : (n : List ℕ) (x : plain.Item) → ItemShape u vs (named n no_item) x → (IsAround vs n ⊎ IsDeclared u n) × (¬ (IsSomeSort u n ⊎ IsSomeTable u n)) × (IsSomeFamily u n → (f : FamilyId) × IsFamilyNamed u n f × TakesArguments u f [])
  bare_passes n x (inl h) = (
    inl (bound_at vs h.0 n h.1 h.3),
    (λ k. elim k [ inl a ↦ variable_alone n x (names.Sort a.0) h a.1 | inr b ↦ variable_alone n x (names.Table b.0) h b.1 ]),
    (λ f. absurd (variable_alone n x (names.Family f.0) h f.1)),
  )
  bare_passes n x (inr (inl h)) =
      let is = value_is_named u h.0 n h.1 h.4 in (
        inr (name_is_declared u n (names.Value h.0 h.1) is),
        (λ k. elim k [
          | inl a ↦ (let e = unique n (names.Value h.0 h.1) (names.Sort a.0) is a.1 in absurd (cc))
          | inr b ↦ (let e = unique n (names.Value h.0 h.1) (names.Table b.0) is b.1 in absurd (cc))
        ]),
        (λ f. absurd (value_not n x h f.0 f.1)),
      )
  bare_passes n x (inr (inr h)) = (
    inr (name_is_declared u n (names.Family h.0) h.4),
    (λ k. elim k [
      | inl a ↦ (let e = unique n (names.Family h.0) (names.Sort a.0) h.4 a.1 in absurd (cc))
      | inr b ↦ (let e = unique n (names.Family h.0) (names.Table b.0) h.4 b.1 in absurd (cc))
    ]),
    (λ f. (h.0, h.4, takes_nothing h.0 h.1 h.2 h.5 h.6)),
  )

  pub named_never : (n : List ℕ) (items : tree.Items) → ArgumentsNever items → (x : plain.Item) (s : SortId) → IsItem u vs (named n items) x → IsOfSort u vs x s → IsNever (IsNamedFault u vs n items (ItemsFault items))
  named_never n no_item never x s h sorted =
      let p = bare_passes n x (item_shape u vs (named n no_item) x h) in
      test_never _ UnknownName _ p.0 (test_never _ WrongSort _ p.1 (test_never _ WrongArity no_test p.2 none_never))
  named_never n (one_item a items) never x s h sorted =
      let p = item_shape u vs (named n (one_item a items)) x h in
      let inside = of_sorts p.0 p.1 p.2 s p.5 (subst (λ y. IsOfSort u vs y s) p.3 sorted) in
      test_never _ UnknownName _ (inr (name_is_declared u n (names.Family p.0) p.4)) (test_never _ WrongSort _ (p.0, p.4)
      (has_family_never u unique n (λ ss. test (count_items (one_item a items) ≡ length ss) WrongArity (ItemsFault (one_item a items) ss)) p.0 p.1 p.4 p.5
      (test_never (count_items (one_item a items) ≡ length p.1) WrongArity (ItemsFault (one_item a items) p.1) (as_many (one_item a items) p.1 p.2 p.6) (never p.1 p.2 p.6 inside))))

  mutual
    pub arguments_never : (items : tree.Items) → ArgumentsNever items
    arguments_never no_item ss xs h sorted = none_never
    arguments_never (one_item a items) [] xs h sorted = none_never
    arguments_never (one_item a items) (s ∷ ss) xs h sorted =
        let p = arguments_shape u vs (s ∷ ss) (one_item a items) xs h in
        let both : s ∷ ss ≡ p.0 ∷ p.1 = p.4 in
        let first : p.0 ≡ s = cc in
        let rest : p.1 ≡ ss = cc in
        let inside : AreOfSorts u vs (plain.item p.2 p.3) (s ∷ ss) = subst (λ ys. AreOfSorts u vs ys (s ∷ ss)) p.5 sorted in
        part_never (IsSortedArgument u vs s a) (IsArgumentFault u vs s a) (AreArgumentsFault u vs ss items)
        (argument_never a s p.2 (subst (λ r. IsArgument u vs r a p.2) first p.6) inside.0)
        (arguments_never items ss p.3 (subst (λ rs. AreArguments u vs rs items p.3) rest p.7) inside.1)

    pub argument_never : (a : tree.Item) (s : SortId) (x : plain.Item) → IsArgument u vs s a x → IsOfSort u vs x s → IsNever (IsArgumentFault u vs s a)
    argument_never (integer z) s x h sorted = let p = argument_shape u vs s (integer z) x h in value_fault_never u s (integer_value z) p.0 p.2
    argument_never (named n items) s x h sorted =
        part_never (IsSortedItem u vs (named n items)) (IsNamedFault u vs n items (ItemsFault items)) _
        (named_never n items (arguments_never items) x s (argument_shape u vs s (named n items) x h) sorted)
        (test_never (IsSortedArgument u vs s (named n items)) WrongSort no_test (x, h, sorted) none_never)

  pub item_never : (a : tree.Item) (x : plain.Item) (s : SortId) → IsItem u vs a x → IsOfSort u vs x s → IsNever (IsItemFault u vs a)
  item_never (integer z) x s h sorted = none_never
  item_never (named n items) x s h sorted = named_never n items (arguments_never items) x s h sorted

  -- ---- an item has one fault at most

  named_fault_one : (n : List ℕ) (items : tree.Items) → ((ss : List SortId) → IsOne (AreArgumentsFault u vs ss items)) → IsOne (IsNamedFault u vs n items (ItemsFault items))
  named_fault_one n no_item one = test_one _ UnknownName _ (test_one _ WrongSort _ (test_one _ WrongArity no_test none_one))
  named_fault_one n (one_item a items) one =
      test_one _ UnknownName _ (test_one _ WrongSort _
      (has_family_one u unique n (λ ss. test (count_items (one_item a items) ≡ length ss) WrongArity (ItemsFault (one_item a items) ss))
      (λ ss. test_one (count_items (one_item a items) ≡ length ss) WrongArity (ItemsFault (one_item a items) ss) (one ss))))

  mutual
    pub arguments_fault_one : (items : tree.Items) (ss : List SortId) → IsOne (AreArgumentsFault u vs ss items)
    arguments_fault_one no_item ss = none_one
    arguments_fault_one (one_item a items) [] = none_one
    arguments_fault_one (one_item a items) (s ∷ ss) =
        part_one (IsSortedArgument u vs s a) (IsArgumentFault u vs s a) (AreArgumentsFault u vs ss items) (λ h. argument_never a s h.0 h.1 h.2) (argument_fault_one a s) (arguments_fault_one items ss)

    argument_fault_one : (a : tree.Item) (s : SortId) → IsOne (IsArgumentFault u vs s a)
    argument_fault_one (integer z) s = value_fault_one u s (integer_value z)
    argument_fault_one (named n items) s =
        part_one (IsSortedItem u vs (named n items)) (IsNamedFault u vs n items (ItemsFault items)) _ (λ h. named_never n items (arguments_never items) h.0 h.1 h.2 h.3)
        (named_fault_one n items (arguments_fault_one items)) (test_one (IsSortedArgument u vs s (named n items)) WrongSort no_test none_one)

  pub item_fault_one : (a : tree.Item) → IsOne (IsItemFault u vs a)
  item_fault_one (integer z) = none_one
  item_fault_one (named n items) = named_fault_one n items (arguments_fault_one items)
