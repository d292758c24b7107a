-- What is told of names, applications and arguments.
use Rattle.std.proofs.Common.{◌≡◌, ◌↔◌, ◌⊎◌, ℕ, zero, suc, ◌+◌, ◌<◌, ◌≤◌, ℤ, List, [], ◌∷◌, ◌++◌, Option, None, Some, slice_get, IsSomeAnd, All, Ok, Err, length, map, drop, get_or, arith, rules, ap, ◌∙◌, sym, subst, refl, inl, inr, Vec, Global}
use Rattle.std.proofs.Math.Seq.{drop-cons}
use Rattle.std.proofs.lemmas.List.{drop_all, map-append}
use Rattle.std.proofs.lemmas.List.Elements.{All-head, All-tail}
use Rattle.pc_formula.specs.Tree as tree
use Rattle.pc_formula.specs.Tree.{integer, named, no_item, one_item, name_value, integer_value}
use Rattle.pc_formula.specs.declared.tree.ItemTree.{ItemTree, the_lemmas as tree_lemmas}
use Rattle.pc_formula.specs.declared.tree.ItemTree.TheVariants as trees
use Rattle.pc_sheet.specs.Sheet as plain
use Rattle.pc_sheet.specs.Sheet.{Universe, Family, Sort}
use Rattle.pc_sheet.specs.Views as views
use Rattle.pc_sheet.specs.Views.{item_of}
use Rattle.pc_sheet.specs.WellFormed.{IsWellFormedUniverse, IsWellFormedFamily}
use Rattle.pc_sheet.specs.WellSorted.{Variables, IsOfSort, AreOfSorts}
use Rattle.pc_sheet.specs.declared.formula.Term.{Term, the_lemmas}
use Rattle.pc_sheet.specs.declared.formula.Term.TheVariants as terms
use Rattle.pc_sheet.specs.declared.ids.SortId.{SortId}
use Rattle.pc_sheet.specs.declared.ids.TableId.{TableId}
use Rattle.pc_sheet.specs.declared.ids.FamilyId.{FamilyId}
use Rattle.pc_sheet.specs.declared.ids.ValueId.{ValueId}
use Rattle.pc_books.specs.Named.{IsNameOf}
use Rattle.pc_books.specs.declared.names.Named.{Named}
use Rattle.pc_books.specs.declared.names.Named.TheVariants as names
use Rattle.pc_books.proofs.NamesLemmas.{name_is_declared}
use Rattle.pc_elaborate.specs.declared.fault.SortFault.{SortFault}
use Rattle.pc_elaborate.specs.declared.fault.SortFault.TheVariants as faults
use Rattle.pc_elaborate.specs.declared.fault.SortFault.TheVariants.{UnknownName, WrongArity, WrongSort}
use Rattle.pc_elaborate.specs.Tests.{test}
use Rattle.pc_elaborate.specs.Outcome.{HasUniqueNames}
use Rattle.pc_elaborate.specs.inside.Scope.{IsScope}
use Rattle.pc_elaborate.specs.Elaboration.{IsFamilyNamed, TakesArguments, StandsForValue, IsItem, is_variable, is_value, is_application, IsArgument, is_integer, is_item, AreArguments, no_arguments, one_argument}
use Rattle.pc_elaborate.specs.FormulaFaults.{IsDeclared, IsAround, IsSomeSort, IsSomeTable, IsSomeFamily, IsSortedArgument, count_items, IsItemFault, IsArgumentFault, AreArgumentsFault}
use Rattle.pc_elaborate.specs.Told.{IsFaultOf, IsItemTold, IsArgumentTold, AreArgumentsTold, IsAppliedTold}
use Rattle.pc_elaborate.proofs.Values.{some_at, both_at, get_below, value_named, value_below, name_of_list, family_one}
use Rattle.pc_elaborate.proofs.Shapes.{argument_shape}
use Rattle.pc_elaborate.proofs.ItemLaws.{bound_at, item_one, sort_one}

-- ---- faults

pub fault_of : (Fails : SortFault → Type 0) (e : SortFault) → Fails e → IsFaultOf Fails e
fault_of Fails faults.UnknownName h = h
fault_of Fails faults.DuplicateName h = h
fault_of Fails faults.WrongArity h = h
fault_of Fails faults.WrongSort h = h
fault_of Fails faults.NotAValue h = h
fault_of Fails faults.EmptySort h = h
fault_of Fails (faults.Limit limited) h = h
fault_of Fails faults.Memory h = tt

pub fault_from : (Fails Others : SortFault → Type 0) → ((e : SortFault) → Fails e → Others e) → (e : SortFault) → IsFaultOf Fails e → IsFaultOf Others e
fault_from Fails Others f faults.UnknownName h = f faults.UnknownName h
fault_from Fails Others f faults.DuplicateName h = f faults.DuplicateName h
fault_from Fails Others f faults.WrongArity h = f faults.WrongArity h
fault_from Fails Others f faults.WrongSort h = f faults.WrongSort h
fault_from Fails Others f faults.NotAValue h = f faults.NotAValue h
fault_from Fails Others f faults.EmptySort h = f faults.EmptySort h
fault_from Fails Others f (faults.Limit limited) h = f (faults.Limit limited) h
fault_from Fails Others f faults.Memory h = tt

-- ---- views

-- items, and then these
abbrev pub followed : List plain.Item → plain.Items → plain.Items
followed [] ys = ys
followed (x ∷ xs) ys = plain.item x (followed xs ys)

pub followed_more : (xs : List plain.Item) (x : plain.Item) (ys : plain.Items) → followed (xs ++ x ∷ []) ys ≡ followed xs (plain.item x ys)
followed_more [] x ys = refl
followed_more (z ∷ xs) x ys = ap (plain.item z) (followed_more xs x ys)

pub followed_all : (xs : List plain.Item) → followed xs plain.no_items ≡ views.items_of xs
followed_all [] = refl
followed_all (x ∷ xs) = ap (plain.item x) (followed_all xs)

pub item_of-Variable : (k : ℕ) → item_of (terms.Variable k) ≡ plain.variable k
item_of-Variable k = search (rules, the_lemmas)

pub item_of-Value : (s : SortId) (v : ValueId) → item_of (terms.Value s v) ≡ plain.constant s v
item_of-Value s v = search (rules, the_lemmas)

pub item_of-Number : (z : ℤ) → item_of (terms.Number z) ≡ plain.number z
item_of-Number z = search (rules, the_lemmas)

pub item_of-Cell : (f : FamilyId) (v : Vec Term Global) → item_of (terms.Cell f v) ≡ plain.cell f (views.items_of (map item_of v.items))
item_of-Cell f v = search (rules, the_lemmas)

pub count_of_items : (xs : List tree.Item) → count_items (tree.items_of xs) ≡ length xs
count_of_items [] = refl
count_of_items (x ∷ xs) = let rest = count_of_items xs in omega (arith, rest)

-- ---- look-ups

pub stands_for : (u : Universe) (n m : List ℕ) → m ≡ n → (o : Option Named) → ((k : Named) → (o ≡ Some k) ↔ IsNameOf u m k) → (k : Named) → o ≡ Some k → IsNameOf u n k
stands_for u n m same o told k is = subst (λ t. IsNameOf u t k) same ((told k).0 is)

pub family_below : (u : Universe) (n : List ℕ) (f : FamilyId) → IsFamilyNamed u n f → f.0 < length u.families
family_below u n f h = let found = some_at (slice_get u.families f.0) (λ (d : Family). d.name ≡ n) h in get_below u u.families f.0 found.0 found.1

value_sort_below : (u : Universe) (n : List ℕ) (s : SortId) (v : ValueId) → IsNameOf u n (names.Value s v) → s.0 < length u.sorts
value_sort_below u n s v h = let found = some_at (slice_get u.sorts s.0) _ h in get_below u u.sorts s.0 found.0 found.1

family_at : (u : Universe) (fs : List Family) (k : ℕ) (d : Family) → All (IsWellFormedFamily u) fs → slice_get fs k ≡ Some d → IsWellFormedFamily u d
family_at u [] k d h is = absurd (cc)
family_at u (f ∷ fs) zero d h is = let same : f ≡ d = cc in subst (IsWellFormedFamily u) same (All-head (IsWellFormedFamily u) f fs h)
family_at u (f ∷ fs) (suc k) d h is = family_at u fs k d (All-tail (IsWellFormedFamily u) f fs h) is

pub result_below : (u : Universe) → IsWellFormedUniverse u → (f : FamilyId) (s : SortId) → IsSomeAnd (slice_get u.families f.0) (λ d. s ≡ d.result_sort) → s.0 < length u.sorts
result_below u formed f s h =
    let found = some_at (slice_get u.families f.0) (λ (d : Family). s ≡ d.result_sort) h in
    subst (λ (r : SortId). r.0 < length u.sorts) (sym found.2) (family_at u u.families f.0 found.0 formed.families found.1).result_sort

module _ (u : Universe) (vs : Variables) where
  pub variable_told : (n : List ℕ) (k : ℕ) (s : SortId) → IsScope u vs → slice_get vs k ≡ Some (n, s) → IsItemTold u vs (named n no_item) (Ok (terms.Variable k, s))
  variable_told n k s scope h =
      let P : plain.Item → Type 0 = λ x. IsItem u vs (named n no_item) x × IsOfSort u vs x s × (s.0 < length u.sorts) in
      subst P (sym (item_of-Variable k)) (is_variable n k s h, subst (λ o. IsSomeAnd o (λ (v : List ℕ × SortId). v.1 ≡ s)) (sym h) refl, scope.sorts n k s h)

  pub value_told : (n : List ℕ) (s : SortId) (v : ValueId) → IsNameOf u n (names.Value s v) → IsItemTold u vs (named n no_item) (Ok (terms.Value s v, s))
  value_told n s v h =
      let P : plain.Item → Type 0 = λ x. IsItem u vs (named n no_item) x × IsOfSort u vs x s × (s.0 < length u.sorts) in
      let value = value_named u s n v h in
      subst P (sym (item_of-Value s v)) (is_value n s v (name_of_list u s n v value) value, (refl, value_below u s (name_value n) v value), value_sort_below u n s v h)

  pub sort_is_no_item : (n : List ℕ) (s : SortId) → IsNameOf u n (names.Sort s) → IsItemTold u vs (named n no_item) (Err WrongSort)
  sort_is_no_item n s h = inr (inr (name_is_declared u n (names.Sort s) h), inl ((λ others. others (inl (s, h))), refl))

  pub table_is_no_item : (n : List ℕ) (t : TableId) → IsNameOf u n (names.Table t) → IsItemTold u vs (named n no_item) (Err WrongSort)
  table_is_no_item n t h = inr (inr (name_is_declared u n (names.Table t) h), inl ((λ others. others (inr (t, h))), refl))

  module _ (f : FamilyId) (v : Vec Term Global) (s : SortId) (ss : List SortId) (takes : TakesArguments u f ss) (result : IsSomeAnd (slice_get u.families f.0) (λ d. s ≡ d.result_sort)) where
    cell_sorted : AreOfSorts u vs (views.items_of (map item_of v.items)) ss → IsOfSort u vs (plain.cell f (views.items_of (map item_of v.items))) s
    cell_sorted h = by (slice_get u.families f.0) takes result
      where
        by : (o : Option Family) → IsSomeAnd o (λ d. d.sorts ≡ ss) → IsSomeAnd o (λ d. s ≡ d.result_sort) → IsSomeAnd o (λ d. (d.result_sort ≡ s) × AreOfSorts u vs (views.items_of (map item_of v.items)) d.sorts)
        by None k m = k
        by (Some d) k m = (sym m, subst (AreOfSorts u vs (views.items_of (map item_of v.items))) (sym k) h)

    pub application_told : (n : List ℕ) (items : tree.Items) → IsWellFormedUniverse u → IsFamilyNamed u n f → AreArguments u vs ss items (views.items_of (map item_of v.items)) → AreOfSorts u vs (views.items_of (map item_of v.items)) ss → IsItemTold u vs (named n items) (Ok (terms.Cell f v, s))
    application_told n items formed is given sorted =
        let P : plain.Item → Type 0 = λ x. IsItem u vs (named n items) x × IsOfSort u vs x s × (s.0 < length u.sorts) in
        subst P (sym (item_of-Cell f v)) (is_application n f ss items (views.items_of (map item_of v.items)) is takes given, cell_sorted sorted, result_below u formed f s result)

module _ (u : Universe) (unique : HasUniqueNames u) (vs : Variables) where
  pub only_cell_arity : (n : List ℕ) (f : FamilyId) (ss : List SortId) → IsFamilyNamed u n f → TakesArguments u f ss → (ss ≡ [] → ⊥) → IsItemTold u vs (named n no_item) (Err WrongArity)
  only_cell_arity n f ss is takes some =
      let kinds : ¬ (IsSomeSort u n ⊎ IsSomeTable u n) = λ h. elim h [
        | inl a ↦ (let e = unique n (names.Family f) (names.Sort a.0) is a.1 in absurd (cc))
        | inr b ↦ (let e = unique n (names.Family f) (names.Table b.0) is b.1 in absurd (cc))
      ] in
      let arity : ¬ (IsSomeFamily u n → (g : FamilyId) × IsFamilyNamed u n g × TakesArguments u g []) = λ h.
      let k = h (f, is) in
      let same = family_one u unique n k.0 f k.1 is in
      some (both_at (slice_get u.families f.0) (λ (d : Family). d.sorts) ss [] takes (subst (λ g. TakesArguments u g []) same k.2)) in
      inr (inr (name_is_declared u n (names.Family f) is), inr (kinds, inl (arity, refl)))

  pub other_applied : (n : List ℕ) (k : Named) → IsNameOf u n k → ((f : FamilyId) → k ≡ names.Family f → ⊥) → IsAppliedTold u vs n (Err WrongSort)
  other_applied n k is other = inr (inr (name_is_declared u n k is), inl ((λ h. other h.0 (unique n k (names.Family h.0) is h.1)), refl))

  pub bound_applied : (n : List ℕ) → IsAround vs n → ¬ IsDeclared u n → IsAppliedTold u vs n (Err WrongSort)
  bound_applied n bound undeclared = inr (inl bound, inl ((λ h. undeclared (name_is_declared u n (names.Family h.0) h.1)), refl))

  pub bound_name : (n : List ℕ) (k : ℕ) (s : SortId) → IsScope u vs → slice_get vs k ≡ Some (n, s) → IsAppliedTold u vs n (Err WrongSort)
  bound_name n k s scope h = bound_applied n (bound_at vs k n s h) (scope.undeclared n k s h)

  -- ---- applications

  not_a_family : (n : List ℕ) (a : tree.Item) (items : tree.Items) (e : SortFault) → IsAppliedTold u vs n (Err e) → IsItemFault u vs (named n (one_item a items)) e
  not_a_family n a items e (inl h) = inl h
  not_a_family n a items e (inr (h, inl k)) = inr (h, inl k)
  not_a_family n a items e (inr (h, inr k)) = absurd k.1

  pub no_application : (n : List ℕ) (xs : List tree.Item) (e : SortFault) → 0 < length xs → IsAppliedTold u vs n (Err e) → IsItemTold u vs (named n (tree.items_of xs)) (Err e)
  no_application n [] e some h = absurd (omega arith)
  no_application n (x ∷ xs) e some h = fault_of (IsItemFault u vs (named n (one_item x (tree.items_of xs)))) e (not_a_family n x (tree.items_of xs) e h)

  behind : (n : List ℕ) (x : tree.Item) (xs : List tree.Item) (f : FamilyId) (ss : List SortId) (e : SortFault) → IsFamilyNamed u n f → TakesArguments u f ss
      → test (count_items (one_item x (tree.items_of xs)) ≡ length ss) WrongArity (AreArgumentsFault u vs ss (one_item x (tree.items_of xs))) e → IsItemFault u vs (named n (one_item x (tree.items_of xs))) e
  behind n x xs f ss e is takes h = inr (inr (name_is_declared u n (names.Family f) is), inr ((f, is), (f, ss, is, takes, h)))

  pub wrong_arity : (n : List ℕ) (xs : List tree.Item) (f : FamilyId) (ss : List SortId) → 0 < length xs → IsFamilyNamed u n f → TakesArguments u f ss → (length xs ≡ length ss → ⊥) → IsItemTold u vs (named n (tree.items_of xs)) (Err WrongArity)
  wrong_arity n [] f ss some is takes differ = absurd (omega arith)
  wrong_arity n (x ∷ xs) f ss some is takes differ = behind n x xs f ss WrongArity is takes (inl ((λ same. differ (sym (count_of_items (x ∷ xs)) ∙ same)), refl))

  pub wrong_arguments : (n : List ℕ) (xs : List tree.Item) (f : FamilyId) (ss : List SortId) (e : SortFault) → 0 < length xs → IsFamilyNamed u n f → TakesArguments u f ss → length xs ≡ length ss
      → IsFaultOf (AreArgumentsFault u vs ss (tree.items_of xs)) e → IsItemTold u vs (named n (tree.items_of xs)) (Err e)
  wrong_arguments n [] f ss e some is takes same h = absurd (omega arith)
  wrong_arguments n (x ∷ xs) f ss e some is takes same h =
      fault_from (AreArgumentsFault u vs ss (tree.items_of (x ∷ xs))) (IsItemFault u vs (named n (tree.items_of (x ∷ xs)))) (λ f' k. behind n x xs f ss f' is takes (inr (count_of_items (x ∷ xs) ∙ same, k))) e h

  -- ---- one argument

  pub named_argument : (s t : SortId) (a : tree.Item) (n : List ℕ) (items : tree.Items) (x : Term) → a ≡ named n items → IsItemTold u vs (named n items) (Ok (x, t)) → t ≡ s → IsArgumentTold u vs s a (Ok x)
  named_argument s t a n items x is h same =
      subst (λ b. IsArgument u vs s b (item_of x) × IsOfSort u vs (item_of x) s) (sym is) (is_item s n items (item_of x) h.0, subst (IsOfSort u vs (item_of x)) same h.1)

  pub named_argument_fault : (s : SortId) (a : tree.Item) (n : List ℕ) (items : tree.Items) (e : SortFault) → a ≡ named n items → IsItemTold u vs (named n items) (Err e) → IsArgumentTold u vs s a (Err e)
  named_argument_fault s a n items e is h =
      subst (λ b. IsFaultOf (IsArgumentFault u vs s b) e) (sym is) (fault_from (IsItemFault u vs (named n items)) (IsArgumentFault u vs s (named n items)) (λ f k. inl k) e h)

  pub named_argument_sort : IsScope u vs → (s t : SortId) (a : tree.Item) (n : List ℕ) (items : tree.Items) (x : Term) → a ≡ named n items → IsItemTold u vs (named n items) (Ok (x, t)) → (t.0 ≡ s.0 → ⊥) → IsArgumentTold u vs s a (Err WrongSort)
  named_argument_sort scope s t a n items x is h differ =
      let lacks : ¬ IsSortedArgument u vs s (named n items) = λ k.
      let same = item_one u unique vs scope (named n items) k.0 (item_of x) (argument_item k.0 k.1) h.0 in
      differ (ap (λ (r : SortId). r.0) (IsOfSort-one (item_of x) t s h.1 (subst (λ y. IsOfSort u vs y s) same k.2))) in
      subst (λ b. IsFaultOf (IsArgumentFault u vs s b) WrongSort) (sym is) (inr ((item_of x, t, h.0, h.1), inl (lacks, refl)))
    where
      argument_item : (y : plain.Item) → IsArgument u vs s (named n items) y → IsItem u vs (named n items) y
      argument_item y k = argument_shape u vs s (named n items) y k

      IsOfSort-one : (y : plain.Item) (r q : SortId) → IsOfSort u vs y r → IsOfSort u vs y q → r ≡ q
      IsOfSort-one y r q k m = sort_one u vs y r q k m

-- ---- arguments in a row

module _ (u : Universe) (vs : Variables) where
  pub integer_argument : (s : SortId) (a : tree.Item) (z : ℤ) (v : ValueId) → a ≡ integer z → StandsForValue u s (integer_value z) v → IsArgumentTold u vs s a (Ok (terms.Value s v))
  integer_argument s a z v is h =
      let P : tree.Item → plain.Item → Type 0 = λ b x. IsArgument u vs s b x × IsOfSort u vs x s in
      subst (λ b. P b (item_of (terms.Value s v))) (sym is) (subst (P (integer z)) (sym (item_of-Value s v)) (is_integer s z v h, (refl, value_below u s (integer_value z) v h)))

  module _ (ss : List SortId) (xs : List ItemTree) where
    pub record ArgumentsSoFar (i : ℕ) (ts : List Term) : Type 0 where
      pub stand : (ys : plain.Items) → AreArguments u vs (drop i ss) (tree.items_of (map tree.item_of (drop i xs))) ys → AreArguments u vs ss (tree.items_of (map tree.item_of xs)) (followed (map item_of ts) ys)
      pub sorted : (ys : plain.Items) → AreOfSorts u vs ys (drop i ss) → AreOfSorts u vs (followed (map item_of ts) ys) ss
      pub fails : (e : SortFault) → AreArgumentsFault u vs (drop i ss) (tree.items_of (map tree.item_of (drop i xs))) e → AreArgumentsFault u vs ss (tree.items_of (map tree.item_of xs)) e

    pub no_argument_yet : (ts : List Term) → ts ≡ [] → ArgumentsSoFar 0 ts
    no_argument_yet ts none = subst (ArgumentsSoFar 0) (sym none) (record { stand = λ ys h. h; sorted = λ ys h. h; fails = λ e h. h })

    module _ (i : ℕ) (s : SortId) (x : ItemTree) (below : i < length ss) (count : length xs ≡ length ss) (si : s ≡ get_or ss i s) (xi : x ≡ get_or xs i x) where
      sorts_from : drop i ss ≡ s ∷ drop (suc i) ss
      sorts_from = drop-cons ss i s below ∙ ap (λ t. t ∷ drop (suc i) ss) (sym si)

      items_from : drop i xs ≡ x ∷ drop (suc i) xs
      items_from = drop-cons xs i x (omega arith) ∙ ap (λ t. t ∷ drop (suc i) xs) (sym xi)

      pub one_argument_more : (ts now : List Term) (t : Term) → ArgumentsSoFar i ts → now ≡ ts ++ t ∷ [] → IsArgumentTold u vs s (tree.item_of x) (Ok t) → ArgumentsSoFar (i + 1) now
      one_argument_more ts now t h pushed told =
          let place : suc i ≡ i + 1 = omega arith in
          let all : map item_of now ≡ map item_of ts ++ item_of t ∷ [] = ap (map item_of) pushed ∙ map-append item_of ts (t ∷ []) in
          let joined : (ys : plain.Items) → followed (map item_of ts) (plain.item (item_of t) ys) ≡ followed (map item_of now) ys = λ ys. sym (followed_more (map item_of ts) (item_of t) ys) ∙ ap (λ zs. followed zs ys) (sym all) in
          subst (λ k. ArgumentsSoFar k now) place (record {
            stand = λ ys k. subst (AreArguments u vs ss (tree.items_of (map tree.item_of xs))) (joined ys) (h.stand (plain.item (item_of t) ys)
                (subst (λ rs. AreArguments u vs rs (tree.items_of (map tree.item_of (drop i xs))) (plain.item (item_of t) ys)) (sym sorts_from)
                (subst (λ zs. AreArguments u vs (s ∷ drop (suc i) ss) (tree.items_of (map tree.item_of zs)) (plain.item (item_of t) ys)) (sym items_from)
                (one_argument s (drop (suc i) ss) (tree.item_of x) (tree.items_of (map tree.item_of (drop (suc i) xs))) (item_of t) ys told.0 k))));
            sorted = λ ys k. subst (λ zs. AreOfSorts u vs zs ss) (joined ys) (h.sorted (plain.item (item_of t) ys) (subst (λ rs. AreOfSorts u vs (plain.item (item_of t) ys) rs) (sym sorts_from) (told.1, k)));
            fails = λ e k. h.fails e (subst (λ rs. AreArgumentsFault u vs rs (tree.items_of (map tree.item_of (drop i xs))) e) (sym sorts_from)
                (subst (λ zs. AreArgumentsFault u vs (s ∷ drop (suc i) ss) (tree.items_of (map tree.item_of zs)) e) (sym items_from) (inr ((item_of t, told.0, told.1), k))));
          })

      pub one_argument_fails : (ts : List Term) (e : SortFault) → ArgumentsSoFar i ts → IsArgumentTold u vs s (tree.item_of x) (Err e) → AreArgumentsTold u vs ss (tree.items_of (map tree.item_of xs)) (Err e)
      one_argument_fails ts e h told = fault_from (IsArgumentFault u vs s (tree.item_of x)) (AreArgumentsFault u vs ss (tree.items_of (map tree.item_of xs)))
          (λ f k. h.fails f (subst (λ rs. AreArgumentsFault u vs rs (tree.items_of (map tree.item_of (drop i xs))) f) (sym sorts_from) (subst (λ zs. AreArgumentsFault u vs (s ∷ drop (suc i) ss) (tree.items_of (map tree.item_of zs)) f) (sym items_from) (inl k)))) e told

    pub every_argument : (i : ℕ) (v : Vec Term Global) → length xs ≤ i → length xs ≡ length ss → ArgumentsSoFar i v.items → AreArgumentsTold u vs ss (tree.items_of (map tree.item_of xs)) (Ok v)
    every_argument i v l count h =
        let no_sorts = drop_all i ss (omega arith) in
        let no_items = drop_all i xs l in
        let given = h.stand plain.no_items (subst (λ rs. AreArguments u vs rs (tree.items_of (map tree.item_of (drop i xs))) plain.no_items) (sym no_sorts) (subst (λ zs. AreArguments u vs [] (tree.items_of (map tree.item_of zs)) plain.no_items) (sym no_items) no_arguments)) in
        let sorted = h.sorted plain.no_items (subst (λ rs. AreOfSorts u vs plain.no_items rs) (sym no_sorts) tt) in
        let all = followed_all (map item_of v.items) in
        (subst (AreArguments u vs ss (tree.items_of (map tree.item_of xs))) all given, subst (λ ys. AreOfSorts u vs ys ss) all sorted)

no_sorts : (ss : List SortId) → length ss ≡ 0 → ss ≡ []
no_sorts [] h = refl
no_sorts (s ∷ ss) h = absurd (omega (arith, h))

pub only_cell_told : (u : Universe) (vs : Variables) (f : FamilyId) (v : Vec Term Global) (s : SortId) (ss : List SortId) → TakesArguments u f ss → IsSomeAnd (slice_get u.families f.0) (λ d. s ≡ d.result_sort)
    → (n : List ℕ) → IsWellFormedUniverse u → IsFamilyNamed u n f → length ss ≡ 0 → v.items ≡ [] → IsItemTold u vs (named n no_item) (Ok (terms.Cell f v, s))
only_cell_told u vs f v s ss takes result n formed is none empty =
    let sorts = no_sorts ss none in
    let items : views.items_of (map item_of v.items) ≡ plain.no_items = ap (λ ts. views.items_of (map item_of ts)) empty in
    application_told u vs f v s ss takes result n no_item formed is
    (subst (λ ts. AreArguments u vs ts no_item (views.items_of (map item_of v.items))) (sym sorts) (subst (AreArguments u vs [] no_item) (sym items) no_arguments))
    (subst (AreOfSorts u vs (views.items_of (map item_of v.items))) (sym sorts) (subst (λ ys. AreOfSorts u vs ys []) (sym items) tt))

pub tree_of-Named : (n : List ℕ) (v : Vec ItemTree Global) → tree.item_of (trees.Named n v) ≡ named n (tree.items_of (map tree.item_of v.items))
tree_of-Named n v = search (rules, tree_lemmas)

pub tree_of-Number : (z : ℤ) → tree.item_of (trees.Number z) ≡ integer z
tree_of-Number z = search (rules, tree_lemmas)
