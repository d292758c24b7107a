-- Each cell is an application of a declared family to values of its argument sorts, and its values are those of the family's result sort.
use Rattle.std.proofs.Common.{◌≡◌, ℕ, zero, suc, ◌+◌, ◌<◌, ◌≤◌, List, [], ◌∷◌, ◌++◌, length, map, Option, None, Some, slice_get, slice_index_or, IsSomeAnd, Bool, false, nat_eq, codes, arith, ap, sym, ◌∙◌, subst, refl}
use Rattle.std.specs.Option.{option_map}
use Rattle.std.proofs.lemmas.List.{length-map}
use Rattle.std.proofs.lemmas.Option.{slice_get_within, slice_get-get_or, get_or_from_slice_get, slice_get-map, unwrap_or-slice_get}
use Rattle.pc_sheet.proofs.Cells.{some_same}
use Rattle.pc_sheet.proofs.CellsListed.{cells_are_numbered}
use Rattle.pc_sheet.specs.Sheet.{Universe, Family, Sort}
use Rattle.pc_sheet.specs.Sizes.{count_of, size_of, values_of_sort, argument_sorts, result_sort_of}
use Rattle.pc_sheet.specs.Entailment.{AreWithin, cell_sizes}
use Rattle.pc_sheet.specs.Cells.{Application, cells, IsApplication, size_of_cell}
use Rattle.pc_sheet.specs.declared.ids.SortId.{SortId}
use Rattle.pc_sheet.specs.declared.ids.CellId.{CellId}
use Rattle.pc_sheet.specs.declared.ids.FamilyId.{FamilyId}
use Rattle.pc_sheet.specs.declared.ids.ValueId.{ValueId}
use Rattle.pc_sheet.specs.WellFormed.{IsEntryOf}
use Rattle.pc_sheet.specs.declared.ids.Entry.{Entry}
use Rattle.pc_writer.specs.Spelling.{joined, no_application, application_of, family_of, name_of, separated_arguments, sort_of, value_text, value_texts}

-- ---- arguments

found_within : {A : Type 0} (xs : List A) (k : ℕ) (P : A → Type 0) → IsSomeAnd (slice_get xs k) P → k < length xs
found_within [] k P there = absurd there
found_within (x ∷ xs) zero P there = omega arith
found_within (x ∷ xs) (suc k) P there = let below = found_within xs k P there in omega arith

fit_sorts : (u : Universe) (found : Option Family) (vs : List ValueId) → IsSomeAnd found (λ f. AreWithin (map (size_of u) f.sorts) vs) → AreWithin (map (size_of u) (argument_sorts found)) vs
fit_sorts u None vs w = absurd w
fit_sorts u (Some f) vs w = w

pub within_as_many : (ns : List ℕ) (vs : List ValueId) → AreWithin ns vs → length vs ≡ length ns
within_as_many [] [] w = refl
within_as_many [] (v ∷ vs) w = absurd w
within_as_many (n ∷ ns) [] w = absurd w
within_as_many (n ∷ ns) (v ∷ vs) w = ap suc (within_as_many ns vs w.1)

module _ (u : Universe) where
  pub argument_within : (ss : List SortId) (vs : List ValueId) (i : ℕ) (s : SortId) (v : ValueId) → AreWithin (map (size_of u) ss) vs → slice_get ss i ≡ Some s → slice_get vs i ≡ Some v → v.0 < size_of u s
  argument_within [] vs i s v w sort value = absurd (cc)
  argument_within (t ∷ ss) [] i s v w sort value = absurd w
  argument_within (t ∷ ss) (x ∷ vs) zero s v w sort value = let P : SortId → ValueId → Type 0 = λ a b. b.0 < size_of u a in subst (λ b. P s b) (some_same value) (subst (λ a. P a x) (some_same sort) w.0)
  argument_within (t ∷ ss) (x ∷ vs) (suc i) s v w sort value = argument_within ss vs i s v w.1 sort value

  pub value_texts-at : (ss : List SortId) (vs : List ValueId) (i : ℕ) (s : SortId) (v : ValueId) → slice_get ss i ≡ Some s → slice_get vs i ≡ Some v → slice_get (value_texts u ss vs) i ≡ Some (value_text u s v)
  value_texts-at [] vs i s v sort value = absurd (cc)
  value_texts-at (t ∷ ss) [] i s v sort value = absurd (cc)
  value_texts-at (t ∷ ss) (x ∷ vs) zero s v sort value = ap Some (ap (λ a. value_text u a x) (some_same sort) ∙ ap (value_text u s) (some_same value))
  value_texts-at (t ∷ ss) (x ∷ vs) (suc i) s v sort value = value_texts-at ss vs i s v sort value

  pub length-value_texts : (ss : List SortId) (vs : List ValueId) → length (value_texts u ss vs) ≤ length ss
  length-value_texts [] vs = omega arith
  length-value_texts (t ∷ ss) [] = omega arith
  length-value_texts (t ∷ ss) (x ∷ vs) = let rest = length-value_texts ss vs in omega arith

-- what a book answers about a declared family

name_is : (found : Option Family) (text : List ℕ) → IsSomeAnd found (λ f. text ≡ f.name) → text ≡ name_of found
name_is None text answer = absurd answer
name_is (Some f) text answer = answer

sorts_are : (found : Option Family) (ss : List SortId) → IsSomeAnd found (λ f. ss ≡ f.sorts) → ss ≡ argument_sorts found
sorts_are None ss answer = absurd answer
sorts_are (Some f) ss answer = answer

sort_is : (found : Option Family) (s : SortId) → IsSomeAnd found (λ f. s ≡ f.result_sort) → s ≡ result_sort_of found
sort_is None s answer = absurd answer
sort_is (Some f) s answer = answer

module _ (u : Universe) where
  -- ---- a cell in range

  module _ (c : CellId) (within : c.0 < length (cell_sizes u)) where
    pub cell_is : slice_get (cells u) c.0 ≡ Some (application_of u c)
    cell_is =
        slice_get-get_or (cells u) c.0 no_application (omega (arith, within, (cells_are_numbered u).count))
        ∙ ap Some (sym (unwrap_or-slice_get (cells u) c.0 no_application))

    pub cell_is_application : IsApplication u (application_of u c)
    cell_is_application =
        let P : Application → Type 0 = IsApplication u in
        subst P (get_or_from_slice_get (cells u) c.0 (application_of u c) (application_of u c) cell_is)
        ((cells_are_numbered u).each c.0 (application_of u c) (slice_get_within (cells u) c.0 (application_of u c) cell_is))

    pub cell_size : slice_get (cell_sizes u) c.0 ≡ Some (size_of u (sort_of u c))
    cell_size =
        ap (λ ns. slice_get ns c.0) (sym (cells_are_numbered u).sizes)
        ∙ slice_get-map (size_of_cell u) (cells u) c.0
        ∙ ap (option_map (size_of_cell u)) cell_is

    pub family_within : (application_of u c).family.0 < length u.families
    family_within = found_within u.families (application_of u c).family.0 (λ f. AreWithin (map (size_of u) f.sorts) (application_of u c).arguments) cell_is_application

    pub arguments_within : AreWithin (map (size_of u) (argument_sorts (family_of u c))) (application_of u c).arguments
    arguments_within = fit_sorts u (family_of u c) (application_of u c).arguments cell_is_application

    -- ---- what a book answers about it

    pub family_is : (f : FamilyId) → IsSomeAnd (slice_get (cells u) c.0) (λ a. f ≡ a.family) → f ≡ (application_of u c).family
    family_is f answer = let P : Option Application → Type 0 = λ found. IsSomeAnd found (λ a. f ≡ a.family) in subst P cell_is answer

    pub argument_is : (i : ℕ) (v : ValueId) → IsSomeAnd (slice_get (cells u) c.0) (λ a. slice_get a.arguments i ≡ Some v) → slice_get (application_of u c).arguments i ≡ Some v
    argument_is i v answer = let P : Option Application → Type 0 = λ found. IsSomeAnd found (λ a. slice_get a.arguments i ≡ Some v) in subst P cell_is answer

    pub argument_there : (ss : List SortId) (i : ℕ) → ss ≡ argument_sorts (family_of u c) → i < length ss → IsSomeAnd (slice_get (cells u) c.0) (λ a. i < length a.arguments)
    argument_there ss i same below =
        let P : Option Application → Type 0 = λ found. IsSomeAnd found (λ a. i < length a.arguments) in
        let as_many = within_as_many (map (size_of u) (argument_sorts (family_of u c))) (application_of u c).arguments arguments_within in
        let there : i < length (application_of u c).arguments = omega (arith, below, ap length same, as_many, length-map (argument_sorts (family_of u c)) (size_of u)) in
        subst P (sym cell_is) there

    -- its argument's text is the text of that number
    pub argument_text_is : (ss : List SortId) (i : ℕ) (v : ValueId) → i < length ss → IsSomeAnd (slice_get (cells u) c.0) (λ a. slice_get a.arguments i ≡ Some v)
        → slice_get (value_texts u ss (application_of u c).arguments) i ≡ Some (value_text u (slice_index_or ss i (record { 0 = 0 })) v)
    argument_text_is ss i v below answer =
        value_texts-at u ss (application_of u c).arguments i (slice_index_or ss i (record { 0 = 0 })) v (slice_get-get_or ss i (record { 0 = 0 }) below) (argument_is i v answer)

    pub argument_fits : (ss : List SortId) (i : ℕ) (v : ValueId) → ss ≡ argument_sorts (family_of u c) → i < length ss → IsSomeAnd (slice_get (cells u) c.0) (λ a. slice_get a.arguments i ≡ Some v)
        → v.0 < size_of u (slice_index_or ss i (record { 0 = 0 }))
    argument_fits ss i v same below answer =
        argument_within u (argument_sorts (family_of u c)) (application_of u c).arguments i (slice_index_or ss i (record { 0 = 0 })) v arguments_within
        (ap (λ ts. slice_get ts i) (sym same) ∙ slice_get-get_or ss i (record { 0 = 0 }) below) (argument_is i v answer)

    -- ---- what a book answers about its family

    module _ (f : FamilyId) (answer : IsSomeAnd (slice_get (cells u) c.0) (λ a. f ≡ a.family)) where
      family_found : slice_get u.families f.0 ≡ family_of u c
      family_found = ap (λ h. slice_get u.families h.0) (family_is f answer)

      pub family_there : f.0 < length u.families
      family_there = let P : FamilyId → Type 0 = λ h. h.0 < length u.families in subst P (sym (family_is f answer)) family_within

      pub cell_name_is : (text : List ℕ) → IsSomeAnd (slice_get u.families f.0) (λ declared. text ≡ declared.name) → text ≡ name_of (family_of u c)
      cell_name_is text name = name_is (slice_get u.families f.0) text name ∙ ap name_of family_found

      pub cell_sorts_are : (ss : List SortId) → IsSomeAnd (slice_get u.families f.0) (λ declared. ss ≡ declared.sorts) → ss ≡ argument_sorts (family_of u c)
      cell_sorts_are ss are = sorts_are (slice_get u.families f.0) ss are ∙ ap argument_sorts family_found

      pub cell_sort_is : (s : SortId) → IsSomeAnd (slice_get u.families f.0) (λ declared. s ≡ declared.result_sort) → s ≡ sort_of u c
      cell_sort_is s sort = sort_is (slice_get u.families f.0) s sort ∙ ap result_sort_of family_found

module _ (u : Universe) (e : Entry) (entered : IsEntryOf u e) where
  pub entered_cell : e.cell.0 < length (cell_sizes u)
  entered_cell = found_within (cell_sizes u) e.cell.0 (λ n. e.value.0 < n) entered

  pub entered_value : (s : SortId) → s ≡ sort_of u e.cell → e.value.0 < size_of u s
  entered_value s same =
      let P : Option ℕ → Type 0 = λ found. IsSomeAnd found (λ n. e.value.0 < n) in
      let Q : SortId → Type 0 = λ t. e.value.0 < size_of u t in
      subst Q (sym same) (subst P (cell_size u e.cell entered_cell) entered)

pub in_parentheses : (separator : List ℕ) (u : Universe) (ss : List SortId) (vs : List ValueId) (none : Bool) → none ≡ nat_eq (length ss) 0 → none ≡ false → separated_arguments separator u ss vs ≡ codes "(" ++ (joined separator (value_texts u ss vs) ++ codes ")")
in_parentheses separator u [] vs none is not = absurd (cc)
in_parentheses separator u (s ∷ ss) vs none is not = refl

pub sort_there : (u : Universe) (s : SortId) (v : ValueId) → v.0 < size_of u s → s.0 < length u.sorts
sort_there u s v below = declared (slice_get u.sorts s.0) refl below
  where
    declared : (found : Option Sort) → slice_get u.sorts s.0 ≡ found → v.0 < count_of (values_of_sort found) → s.0 < length u.sorts
    declared None is lt = absurd (omega (arith, lt))
    declared (Some sort) is lt = slice_get_within u.sorts s.0 sort is
