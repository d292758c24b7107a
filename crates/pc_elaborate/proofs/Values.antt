-- What names, values and cells stand for is unique, and is beside no fault.
use Rattle.std.proofs.Common.{◌≡◌, ℕ, zero, suc, ◌<◌, ℤ, pos, ◌+ℤ◌, List, [], ◌∷◌, Option, None, Some, slice_get, IsSomeAnd, length, arith, ap, ap₂, ◌∙◌, sym, subst, refl}
use Rattle.std.proofs.lemmas.Int.{ints}
use Rattle.pc_formula.specs.Tree as tree
use Rattle.pc_formula.specs.Tree.{name_value, integer_value}
use Rattle.pc_sheet.specs.Sheet.{Universe, Family, Sort, Values, listed, range}
use Rattle.pc_sheet.specs.Sizes.{size_of, cell_number, values_at, values_of_sort, count_of}
use Rattle.pc_sheet.specs.WellSorted.{names_of_values, IsRange, IsListed}
use Rattle.pc_sheet.specs.declared.ids.SortId.{SortId}
use Rattle.pc_sheet.specs.declared.ids.TableId.{TableId}
use Rattle.pc_sheet.specs.declared.ids.FamilyId.{FamilyId}
use Rattle.pc_sheet.specs.declared.ids.CellId.{CellId}
use Rattle.pc_sheet.specs.declared.ids.ValueId.{ValueId}
use Rattle.pc_books.specs.Named.{IsNameOf}
use Rattle.pc_books.specs.declared.names.Named.TheVariants as named
use Rattle.pc_books.proofs.NamesLemmas.{name_is_declared}
use Rattle.pc_elaborate.specs.declared.fault.SortFault.{SortFault}
use Rattle.pc_elaborate.specs.declared.fault.SortFault.TheVariants.{UnknownName, WrongArity, WrongSort, NotAValue}
use Rattle.pc_elaborate.specs.Tests.{no_test, test}
use Rattle.pc_elaborate.specs.Outcome.{HasUniqueNames, HasOneOutcome}
use Rattle.pc_elaborate.specs.Elaboration.{IsSortNamed, IsTableNamed, IsFamilyNamed, TakesArguments, GivesValuesOf, StandsForValue, IsValueAmong, AreValuesOf, IsCell}
use Rattle.pc_elaborate.specs.FormulaFaults.{IsDeclared, IsSomeSort, IsSomeTable, IsSomeFamily, IsNameFault, IsSortNameFault, IsSomeValue, IsValueFault, AreValuesFault, HasFamily, IsCellFault}
use Rattle.pc_elaborate.proofs.Testing.{IsOne, IsNever, none_one, none_never, test_one, test_never, part_one, part_never}

-- ---- what a list has at a place

pub some_at : {X : Type 0} (o : Option X) (P : X → Type 0) → IsSomeAnd o P → (x : X) × (o ≡ Some x) × P x
some_at None P h = absurd h
some_at (Some x) P h = (x, refl, h)

pub at_some : {X : Type 0} (o : Option X) (P : X → Type 0) (x : X) → o ≡ Some x → P x → IsSomeAnd o P
at_some o P x is h = subst (λ o. IsSomeAnd o P) (sym is) h

pub same_some : {X : Type 0} {x y : X} {o : Option X} → o ≡ Some x → o ≡ Some y → x ≡ y
same_some e f = cc

-- two facts about the same element
pub both_at : {X A : Type 0} (o : Option X) (f : X → A) (a b : A) → IsSomeAnd o (λ x. f x ≡ a) → IsSomeAnd o (λ x. f x ≡ b) → a ≡ b
both_at None f a b h k = absurd h
both_at (Some x) f a b h k = sym h ∙ k

-- ---- numbers

pub offset_one : (low : ℤ) (v w : ℕ) → low +ℤ pos v ≡ low +ℤ pos w → v ≡ w
offset_one low v w h = grind (arith, ints)

module _ (u : Universe) where
  -- ---- values

  pub value_named : (s : SortId) (n : List ℕ) (v : ValueId) → IsNameOf u n (named.Value s v) → StandsForValue u s (name_value n) v
  value_named s n v h = by (slice_get u.sorts s.0) h
    where
      among : (vs : Values) → slice_get (names_of_values vs) v.0 ≡ Some n → IsValueAmong vs (name_value n) v
      among (listed ns) h = h
      among (range low high) h = absurd (cc)

      by : (o : Option Sort) → IsSomeAnd o (λ d. slice_get (names_of_values d.values) v.0 ≡ Some n) → IsValueAmong (values_of_sort o) (name_value n) v
      by None h = absurd h
      by (Some d) h = among d.values h

  pub value_is_named : (s : SortId) (n : List ℕ) (v : ValueId) → StandsForValue u s (name_value n) v → IsNameOf u n (named.Value s v)
  value_is_named s n v h = by (slice_get u.sorts s.0) h
    where
      among : (vs : Values) → IsValueAmong vs (name_value n) v → slice_get (names_of_values vs) v.0 ≡ Some n
      among (listed ns) h = h
      among (range low high) h = absurd h

      by : (o : Option Sort) → IsValueAmong (values_of_sort o) (name_value n) v → IsSomeAnd o (λ d. slice_get (names_of_values d.values) v.0 ≡ Some n)
      by None h = absurd (cc)
      by (Some d) h = among d.values h

  pub get_below : {X : Type 0} (xs : List X) (k : ℕ) (x : X) → slice_get xs k ≡ Some x → k < length xs
  get_below [] k x h = cc
  get_below (y ∷ ys) zero x h = omega arith
  get_below (y ∷ ys) (suc k) x h = let r = get_below ys k x h in omega (arith, r)

  pub value_below : (s : SortId) (x : tree.Value) (v : ValueId) → StandsForValue u s x v → v.0 < size_of u s
  value_below s x v h = among (values_at u s) x h
    where
      among : (vs : Values) (x : tree.Value) → IsValueAmong vs x v → v.0 < count_of vs
      among (listed ns) (name_value n) h = get_below ns v.0 n h
      among (listed ns) (integer_value z) h = absurd h
      among (range low high) (name_value n) h = absurd h
      among (range low high) (integer_value z) h = h.1

  pub integer_of_range : (s : SortId) (z : ℤ) (v : ValueId) → StandsForValue u s (integer_value z) v → IsRange (values_at u s)
  integer_of_range s z v h = among (values_at u s) h
    where
      among : (vs : Values) → IsValueAmong vs (integer_value z) v → IsRange vs
      among (listed ns) h = absurd h
      among (range low high) h = tt

  pub name_of_list : (s : SortId) (n : List ℕ) (v : ValueId) → StandsForValue u s (name_value n) v → IsListed (values_at u s)
  name_of_list s n v h = among (values_at u s) h
    where
      among : (vs : Values) → IsValueAmong vs (name_value n) v → IsListed vs
      among (listed ns) h = tt
      among (range low high) h = absurd h

  pub integer_one : (s : SortId) (z : ℤ) (v w : ValueId) → StandsForValue u s (integer_value z) v → StandsForValue u s (integer_value z) w → v ≡ w
  integer_one s z v w h k = among (values_at u s) h k
    where
      among : (vs : Values) → IsValueAmong vs (integer_value z) v → IsValueAmong vs (integer_value z) w → v ≡ w
      among (listed ns) h k = absurd h
      among (range low high) h k = ap (λ (n : ℕ). record { 0 = n }) (offset_one low v.0 w.0 (sym h.0 ∙ k.0))

  module _ (unique : HasUniqueNames u) where
    pub value_one : (s : SortId) (x : tree.Value) (v w : ValueId) → StandsForValue u s x v → StandsForValue u s x w → v ≡ w
    value_one s (name_value n) v w h k = let e = unique n (named.Value s v) (named.Value s w) (value_is_named s n v h) (value_is_named s n w k) in cc
    value_one s (integer_value z) v w h k = integer_one s z v w h k

    pub family_one : (n : List ℕ) (f g : FamilyId) → IsFamilyNamed u n f → IsFamilyNamed u n g → f ≡ g
    family_one n f g h k = let e = unique n (named.Family f) (named.Family g) h k in cc

    pub table_one : (n : List ℕ) (f g : TableId) → IsTableNamed u n f → IsTableNamed u n g → f ≡ g
    table_one n f g h k = let e = unique n (named.Table f) (named.Table g) h k in cc

    pub sort_one : (n : List ℕ) (f g : SortId) → IsSortNamed u n f → IsSortNamed u n g → f ≡ g
    sort_one n f g h k = let e = unique n (named.Sort f) (named.Sort g) h k in cc

  -- ---- names

  pub name_fault_one : (n : List ℕ) (Kind : Type 0) → IsOne (IsNameFault u n Kind)
  name_fault_one n Kind = test_one (IsDeclared u n) UnknownName (test Kind WrongSort no_test) (test_one Kind WrongSort no_test none_one)

  pub name_fault_never : (n : List ℕ) (Kind : Type 0) → IsDeclared u n → Kind → IsNever (IsNameFault u n Kind)
  name_fault_never n Kind declared kind = test_never (IsDeclared u n) UnknownName (test Kind WrongSort no_test) declared (test_never Kind WrongSort no_test kind none_never)

  pub value_fault_one : (s : SortId) (x : tree.Value) → IsOne (IsValueFault u s x)
  value_fault_one s (name_value n) = test_one (IsDeclared u n) UnknownName _ (test_one (IsSomeValue u s (name_value n)) WrongSort no_test none_one)
  value_fault_one s (integer_value z) = test_one (IsRange (values_at u s)) WrongSort _ (test_one (IsSomeValue u s (integer_value z)) NotAValue no_test none_one)

  pub value_fault_never : (s : SortId) (x : tree.Value) (v : ValueId) → StandsForValue u s x v → IsNever (IsValueFault u s x)
  value_fault_never s (name_value n) v h =
      test_never (IsDeclared u n) UnknownName _ (name_is_declared u n (named.Value s v) (value_is_named s n v h)) (test_never (IsSomeValue u s (name_value n)) WrongSort no_test (v, h) none_never)
  value_fault_never s (integer_value z) v h =
      test_never (IsRange (values_at u s)) WrongSort _ (integer_of_range s z v h) (test_never (IsSomeValue u s (integer_value z)) NotAValue no_test (v, h) none_never)

  pub values_fault_one : (ss : List SortId) (xs : List tree.Value) → IsOne (AreValuesFault u ss xs)
  values_fault_one [] xs = none_one
  values_fault_one (s ∷ ss) [] = none_one
  values_fault_one (s ∷ ss) (x ∷ xs) =
      part_one (IsSomeValue u s x) (IsValueFault u s x) (AreValuesFault u ss xs) (λ some. value_fault_never s x some.0 some.1) (value_fault_one s x) (values_fault_one ss xs)

  pub values_fault_never : (ss : List SortId) (xs : List tree.Value) (vs : List ValueId) → AreValuesOf u ss xs vs → IsNever (AreValuesFault u ss xs)
  values_fault_never [] xs vs h = none_never
  values_fault_never (s ∷ ss) [] vs h = none_never
  values_fault_never (s ∷ ss) (x ∷ xs) [] h = absurd h
  values_fault_never (s ∷ ss) (x ∷ xs) (v ∷ vs) h = part_never (IsSomeValue u s x) (IsValueFault u s x) (AreValuesFault u ss xs) (value_fault_never s x v h.0) (values_fault_never ss xs vs h.1)

  pub as_many_values : (ss : List SortId) (xs : List tree.Value) (vs : List ValueId) → AreValuesOf u ss xs vs → length xs ≡ length ss
  as_many_values [] [] vs h = refl
  as_many_values [] (x ∷ xs) vs h = absurd h
  as_many_values (s ∷ ss) [] vs h = absurd h
  as_many_values (s ∷ ss) (x ∷ xs) [] h = absurd h
  as_many_values (s ∷ ss) (x ∷ xs) (v ∷ vs) h = ap suc (as_many_values ss xs vs h.1)

  module _ (unique : HasUniqueNames u) where
    pub values_one : (ss : List SortId) (xs : List tree.Value) (vs ws : List ValueId) → AreValuesOf u ss xs vs → AreValuesOf u ss xs ws → vs ≡ ws
    values_one [] [] [] [] h k = refl
    values_one [] [] [] (w ∷ ws) h k = absurd k
    values_one [] [] (v ∷ vs) ws h k = absurd h
    values_one [] (x ∷ xs) vs ws h k = absurd h
    values_one (s ∷ ss) [] vs ws h k = absurd h
    values_one (s ∷ ss) (x ∷ xs) [] ws h k = absurd h
    values_one (s ∷ ss) (x ∷ xs) (v ∷ vs) [] h k = absurd k
    values_one (s ∷ ss) (x ∷ xs) (v ∷ vs) (w ∷ ws) h k = ap₂ (λ a b. a ∷ b) (value_one unique s x v w h.0 k.0) (values_one ss xs vs ws h.1 k.1)

    pub has_family_one : (n : List ℕ) (Fails : List SortId → SortFault → Type 0) → ((ss : List SortId) → IsOne (Fails ss)) → IsOne (HasFamily u n Fails)
    has_family_one n Fails one e f h k =
        let same = family_one unique n h.0 k.0 h.2 k.2 in
        let sorts = both_at (slice_get u.families h.0.0) (λ (d : Family). d.sorts) h.1 k.1 h.3 (subst (λ g. TakesArguments u g k.1) (sym same) k.3) in
        one h.1 e f h.4 (subst (λ ss. Fails ss f) (sym sorts) k.4)

    pub has_family_never : (n : List ℕ) (Fails : List SortId → SortFault → Type 0) (f : FamilyId) (ss : List SortId) → IsFamilyNamed u n f → TakesArguments u f ss → IsNever (Fails ss) → IsNever (HasFamily u n Fails)
    has_family_never n Fails f ss is takes never e h =
        let same = family_one unique n h.0 f h.2 is in
        let sorts = both_at (slice_get u.families f.0) (λ (d : Family). d.sorts) h.1 ss (subst (λ g. TakesArguments u g h.1) same h.3) takes in
        never e (subst (λ ts. Fails ts e) sorts h.4)

    -- ---- laws

    pub sort_outcome : (n : List ℕ) → HasOneOutcome (IsSortNamed u n) (IsSortNameFault u n)
    sort_outcome n = record {
      one = sort_one unique n;
      never = λ s h. name_fault_never n (IsSomeSort u n) (name_is_declared u n (named.Sort s) h) (s, h);
      same = name_fault_one n (IsSomeSort u n);
    }

    pub table_outcome : (n : List ℕ) → HasOneOutcome (IsTableNamed u n) (IsNameFault u n (IsSomeTable u n))
    table_outcome n = record {
      one = table_one unique n;
      never = λ t h. name_fault_never n (IsSomeTable u n) (name_is_declared u n (named.Table t) h) (t, h);
      same = name_fault_one n (IsSomeTable u n);
    }

    pub family_outcome : (n : List ℕ) → HasOneOutcome (IsFamilyNamed u n) (IsNameFault u n (IsSomeFamily u n))
    family_outcome n = record {
      one = family_one unique n;
      never = λ f h. name_fault_never n (IsSomeFamily u n) (name_is_declared u n (named.Family f) h) (f, h);
      same = name_fault_one n (IsSomeFamily u n);
    }

    pub value_outcome : (s : SortId) (x : tree.Value) → HasOneOutcome (StandsForValue u s x) (IsValueFault u s x)
    value_outcome s x = record { one = value_one unique s x; never = value_fault_never s x; same = value_fault_one s x }

    pub values_outcome : (ss : List SortId) (xs : List tree.Value) → HasOneOutcome (AreValuesOf u ss xs) (AreValuesFault u ss xs)
    values_outcome ss xs = record { one = values_one ss xs; never = values_fault_never ss xs; same = values_fault_one ss xs }

    -- what stands for a cell, with its sort
    abbrev pub IsCellWithSort : tree.Cell → CellId × SortId → Type 0
    IsCellWithSort c k = IsCell u c k.0 k.1

    abbrev behind : tree.Cell → List SortId → SortFault → Type 0
    behind c ss = test (length c.args ≡ length ss) WrongArity (AreValuesFault u ss c.args)

    pub cell_outcome : (c : tree.Cell) → HasOneOutcome (IsCellWithSort c) (IsCellFault u c)
    cell_outcome c = record {
      one = one;
      never = λ k h. part_never (IsSomeFamily u c.name) (IsNameFault u c.name (IsSomeFamily u c.name)) (HasFamily u c.name (behind c))
          (name_fault_never c.name (IsSomeFamily u c.name) (name_is_declared u c.name (named.Family h.family) h.named) (h.family, h.named))
          (has_family_never c.name (behind c) h.family h.sorts h.named h.takes
          (test_never (length c.args ≡ length h.sorts) WrongArity (AreValuesFault u h.sorts c.args) (as_many_values h.sorts c.args h.arguments h.given) (values_fault_never h.sorts c.args h.arguments h.given)));
      same = part_one (IsSomeFamily u c.name) (IsNameFault u c.name (IsSomeFamily u c.name)) (HasFamily u c.name (behind c))
          (λ some. name_fault_never c.name (IsSomeFamily u c.name) (name_is_declared u c.name (named.Family some.0) some.1) some)
          (name_fault_one c.name (IsSomeFamily u c.name))
          (has_family_one c.name (behind c) (λ ss. test_one (length c.args ≡ length ss) WrongArity (AreValuesFault u ss c.args) (values_fault_one ss c.args)));
    }
      where
        one : (k l : CellId × SortId) → IsCell u c k.0 k.1 → IsCell u c l.0 l.1 → k ≡ l
        one k l h m =
            let same = family_one unique c.name h.family m.family h.named m.named in
            let sorts = both_at (slice_get u.families h.family.0) (λ (d : Family). d.sorts) h.sorts m.sorts h.takes (subst (λ g. TakesArguments u g m.sorts) (sym same) m.takes) in
            let given = values_one h.sorts c.args h.arguments m.arguments h.given (subst (λ ss. AreValuesOf u ss c.args m.arguments) (sym sorts) m.given) in
            let number : k.0.0 ≡ l.0.0 = h.number ∙ ap₂ (cell_number u) same given ∙ sym m.number in
            let result = both_at (slice_get u.families h.family.0) (λ (d : Family). d.result_sort) k.1 l.1 h.gives (subst (λ g. GivesValuesOf u g l.1) (sym same) m.gives) in
            ap₂ (λ (a : ℕ) (b : SortId). (record { 0 = a }, b)) number result
