-- The maximal sets of a sheet are the unions of one maximal set of each part with entries.
use Rattle.std.proofs.Common.{◌≡◌, inl, inr, true, false, List, [], ◌∷◌, map, length, Contains, ap, refl, sym, ◌∙◌, subst}
use Rattle.std.specs.List.{AllZip}
use Rattle.std.proofs.lemmas.Bool.{cases_Bool, false≢true}
use Rattle.std.proofs.lemmas.List.Elements.{All-contains}
use Rattle.std.proofs.lemmas.List.Kept.{AllPairs-filter}
use Rattle.pc_sheet.specs.Sheet.{Sheet}
use Rattle.pc_sheet.specs.Entailment.{IsSublist}
use Rattle.pc_sheet.specs.Sizes.{product}
use Rattle.pc_sheet.specs.MaximalSets.{ListsExactly, IsMaximalSet, AreRulesConsistent}
use Rattle.pc_sheet.specs.WellFormed.{IsEntryOf, AreWellFormedEntries}
use Rattle.pc_sheet.specs.declared.ids.Entry.{Entry}
use Rattle.pc_lemmas.proofs.Elements.{contains_first, contains_later, contains_cases, contains_none, contains_map, contains_mapped, kept, kept_is, zip_made, zip_weaker, zip_both}
use Rattle.pc_laws.proofs.Contained.{sub_contained, sub_filtered}
use Rattle.pc_laws.proofs.EachEntry.{same_contained}
use Rattle.pc_parts.specs.Parts.{Part, AreApart, IsDivision}
use Rattle.pc_parts.specs.PartSheets.{is_on, entries_on, sheet_of}
use Rattle.pc_parts.specs.Unions.{are_some, has_entries, parts_with_entries, IsInSome, IsUnion, AreChoices, AreUnions, MaximalSetsAreUnions}
use Rattle.pc_parts.proofs.Joining.{among_contains}
use Rattle.pc_parts.proofs.Consistent.{consistent_part, part_of}
use Rattle.pc_parts.proofs.OfParts.{maximal_part, maximal_whole}
use Rattle.pc_parts.proofs.United.{selected, in_some_decided, AreOf, on_part, IsOwn, own}
use Rattle.pc_parts.proofs.LawsHold.{no_entries}
use Rattle.pc_parts.proofs.Choices.{zip_length, zip_from, zip_to, zip_along, zip_across, zip_differ, choices, length-choices, from_choice, choice_from, choices_differ}

-- ---- lists

some_entry : (es : List Entry) (e : Entry) → Contains es e → are_some es ≡ true
some_entry [] e c = absurd (contains_none e c)
some_entry (x ∷ xs) e c = refl

no_entry : (es : List Entry) → are_some es ≡ false → es ≡ []
no_entry [] h = refl
no_entry (x ∷ xs) h = absurd (false≢true (sym h))

zip_map : {X Y : Type 0} (R : X → Y → Type 0) (f : X → Y) (xs : List X) → ((x : X) → Contains xs x → R x (f x)) → AllZip R xs (map f xs)
zip_map R f [] h = tt
zip_map R f (x ∷ xs) h = (h x (contains_first x xs), zip_map R f xs (λ y c. h y (contains_later x xs y c)))

zip_and : {X Y : Type 0} (R S T : X → Y → Type 0) → ((x : X) (y : Y) → R x y → S x y → T x y) → (xs : List X) (ys : List Y) → AllZip R xs ys → AllZip S xs ys → AllZip T xs ys
zip_and R S T f [] [] h k = tt
zip_and R S T f [] (y ∷ ys) h k = absurd h
zip_and R S T f (x ∷ xs) [] h k = absurd h
zip_and R S T f (x ∷ xs) (y ∷ ys) h k = (f x y h.0 k.0, zip_and R S T f xs ys h.1 k.1)

zip_is : {X Y : Type 0} (f : X → Y) (xs : List X) (ys : List Y) → AllZip (λ x y. f x ≡ y) xs ys → ys ≡ map f xs
zip_is f [] [] h = refl
zip_is f [] (y ∷ ys) h = absurd h
zip_is f (x ∷ xs) [] h = absurd h
zip_is f (x ∷ xs) (y ∷ ys) h = ap (λ z. z ∷ ys) (sym h.0) ∙ ap (λ zs. f x ∷ zs) (zip_is f xs ys h.1)

-- what one of the lists has is an entry
in_entries : (es : List Entry) (ps : List Part) (cs : List (List Entry)) → AllZip (AreOf es) ps cs → (e : Entry) → IsInSome cs e → Contains es e
in_entries es [] [] h e i = absurd (contains_none i.0 i.1)
in_entries es [] (c ∷ cs) h e i = absurd h
in_entries es (p ∷ ps) [] h e i = absurd h
in_entries es (p ∷ ps) (c ∷ cs) h e i = elim (contains_cases c cs i.0 i.1) [
  | inl same ↦ (on_part es p c h.0 e (subst (λ o. Contains o e) (sym same) i.2)).0
  | inr later ↦ in_entries es ps cs h.1 e (i.0, later, i.2)
]

module _ (sheet : Sheet) (parts : List Part) (division : IsDivision sheet parts) (rules : AreRulesConsistent sheet) (entries : AreWellFormedEntries sheet.universe sheet.entries) where
  abbrev printed : List Part
  printed = parts_with_entries sheet parts

  abbrev on : Part → List Entry → List Entry
  on part s = entries_on part.cells s

  printed_there : (part : Part) → Contains printed part → Contains parts part
  printed_there part c = (kept_is (has_entries sheet) parts part c).0

  -- ---- a maximal set is a union

  choices_of : List Entry → List (List Entry)
  choices_of s = map (λ part. on part s) printed

  are_choices : (s : List Entry) → IsMaximalSet sheet s → AreChoices sheet parts (choices_of s)
  unfolding choices_of
  are_choices s m =
      zip_map (λ part o. IsMaximalSet (sheet_of sheet part) o) (λ part. on part s) printed
      (λ part c. maximal_part sheet parts division part (printed_there part c) s entries.distinct m.among m)

  is_union : (s : List Entry) → IsSublist sheet.entries s → IsUnion sheet.entries (choices_of s) s
  unfolding choices_of
  is_union s sub = record {
    among = sub;
    has = λ e. (
      λ c.
          let entered = sub_contained sheet.entries s sub e c in
          let found = part_of sheet parts division e (All-contains (IsEntryOf sheet.universe) sheet.entries e entries.each entered) in
          let there : Contains printed found.0 = kept (has_entries sheet) parts found.0 found.1 (some_entry (on found.0 sheet.entries) e (kept (is_on found.0.cells) sheet.entries e entered found.2)) in
          (on found.0 s, contains_map (λ part. on part s) printed found.0 there, kept (is_on found.0.cells) s e c found.2),
      λ i.
          let found = contains_mapped (λ part. on part s) printed i.0 i.1 in
          (kept_is (is_on found.0.cells) s e (subst (λ o. Contains o e) (sym found.2) i.2)).0,
    );
  }

  -- ---- a union is a maximal set

  module _ (choices : List (List Entry)) (are : AreChoices sheet parts choices) where
    sublists : AllZip (AreOf sheet.entries) printed choices
    sublists = zip_weaker (λ part o. IsMaximalSet (sheet_of sheet part) o) (AreOf sheet.entries) (λ part o m. m.among) printed choices are

    owned : AllZip (IsOwn sheet.entries choices) printed choices
    owned = own sheet.entries printed choices (AllPairs-filter AreApart (has_entries sheet) parts division.apart) sublists

    union_of : (s : List Entry) × IsUnion sheet.entries choices s
    union_of =
        let s = selected (IsInSome choices) (in_some_decided choices) sheet.entries in
        (s.list, record { among = s.among; has = λ e. (s.only e, λ i. s.has e (in_entries sheet.entries printed choices sublists e i) i) })

    module _ (s : List Entry) (u : IsUnion sheet.entries choices s) where
      on_is : (part : Part) (o : List Entry) → AreOf sheet.entries part o → IsOwn sheet.entries choices part o → on part s ≡ o
      on_is part o sub is =
          same_contained (on part sheet.entries) (on part s) o (AllPairs-filter (λ (e f : Entry). (e ≡ f) → ⊥) (is_on part.cells) sheet.entries entries.distinct)
          (sub_filtered (is_on part.cells) sheet.entries s u.among) sub
          (λ e there. let k = kept_is (is_on part.cells) s e there in (is e (among_contains part.cells e.cell.0 k.1)).0 ((u.has e).0 k.0))
          (λ e there.
          let k = kept_is (is_on part.cells) sheet.entries e (sub_contained (on part sheet.entries) o sub e there) in
          kept (is_on part.cells) s e ((u.has e).1 ((is e (among_contains part.cells e.cell.0 k.1)).1 there)) k.1)

      each_on : AllZip (λ part o. on part s ≡ o) printed choices
      each_on = zip_and (AreOf sheet.entries) (IsOwn sheet.entries choices) (λ part o. on part s ≡ o) on_is printed choices sublists owned

      choices_are : choices ≡ choices_of s
      unfolding choices_of
      choices_are = zip_is (λ part. on part s) printed choices each_on

      without_entries : (part : Part) → Contains parts part → on part sheet.entries ≡ [] → IsMaximalSet (sheet_of sheet part) (on part s)
      without_entries part there none =
          let is : on part s ≡ [] = subst (λ es. IsSublist es (on part s)) none (sub_filtered (is_on part.cells) sheet.entries s u.among) in
          subst (IsMaximalSet (sheet_of sheet part)) (sym is) (record {
            among = subst (λ es. IsSublist es []) (sym none) refl;
            consistent = consistent_part sheet parts division part there [] (no_entries sheet rules);
            maximal = λ other sub h larger. subst (λ es. IsSublist es other) none sub;
          })

      maximal_on : (part : Part) → Contains parts part → IsMaximalSet (sheet_of sheet part) (on part s)
      maximal_on part there = elim (cases_Bool (has_entries sheet part)) [
        | inl some ↦
            let found = zip_both (λ q o. IsMaximalSet (sheet_of sheet q) o) (λ q o. on q s ≡ o) printed choices are each_on part (kept (has_entries sheet) parts part there some) in
            subst (IsMaximalSet (sheet_of sheet part)) (sym found.2) found.1
        | inr none ↦ without_entries part there (no_entry (on part sheet.entries) none)
      ]

      union_is_maximal : IsMaximalSet sheet s
      union_is_maximal = maximal_whole sheet parts division entries s u.among maximal_on

  one_union_at_most : (choices : List (List Entry)) (s other : List Entry) → IsUnion sheet.entries choices s → IsUnion sheet.entries choices other → other ≡ s
  one_union_at_most choices s other u v = same_contained sheet.entries other s entries.distinct v.among u.among (λ e c. (u.has e).1 ((v.has e).0 c)) (λ e c. (v.has e).1 ((u.has e).0 c))

  -- ---- how many there are

  module _ (lists : List (List (List Entry))) (exact : AllZip (λ part sets. ListsExactly (List Entry) (IsMaximalSet (sheet_of sheet part)) sets) printed lists) where
    abbrev IsExact : Part → List (List Entry) → Type 0
    IsExact part sets = ListsExactly (List Entry) (IsMaximalSet (sheet_of sheet part)) sets

    abbrev HasSet : List (List Entry) → List Entry → Type 0
    HasSet sets o = Contains sets o

    abbrev IsMaximalOn : Part → List Entry → Type 0
    IsMaximalOn part o = IsMaximalSet (sheet_of sheet part) o

    are_of : (c : List (List Entry)) → Contains (choices lists) c → AreChoices sheet parts c
    are_of c has = zip_along IsExact HasSet IsMaximalOn (λ part sets o is there. (is.exact o).0 there) printed lists c exact (choice_from lists c has)

    of_are : (c : List (List Entry)) → AreChoices sheet parts c → Contains (choices lists) c
    of_are c are = from_choice lists c (zip_across IsExact HasSet IsMaximalOn (λ part sets o is m. (is.exact o).1 m) printed lists c exact are)

    abbrev IsUnionOf : List (List Entry) → List Entry → Type 0
    IsUnionOf c s = IsUnion sheet.entries c s

    unions : (all : List (List Entry)) × AllZip IsUnionOf (choices lists) all
    unions = zip_made IsUnionOf (choices lists) (λ c has. union_of c (are_of c has))

    all_counted : (all : List (List Entry)) × ListsExactly (List Entry) (IsMaximalSet sheet) all × (length all ≡ product (map length lists))
    all_counted = (
      unions.0,
      record {
        exact = λ s. (
          λ c. let found = zip_from IsUnionOf (choices lists) unions.0 unions.1 s c in union_is_maximal found.0 (are_of found.0 found.1) s found.2,
          λ m.
              let found = zip_to IsUnionOf (choices lists) unions.0 unions.1 (choices_of s) (of_are (choices_of s) (are_choices s m)) in
              subst (Contains unions.0) (one_union_at_most (choices_of s) s found.0 (is_union s m.among) found.2) found.1,
        );
        different = zip_differ IsUnionOf (choices lists) unions.0 unions.1 (λ c d s c_in d_in u v. choices_are c (are_of c c_in) s u ∙ sym (choices_are d (are_of d d_in) s v))
            (choices_differ lists (λ sets has. (zip_from IsExact printed lists exact sets has).2.different));
      },
      sym (zip_length IsUnionOf (choices lists) unions.0 unions.1) ∙ length-choices lists,
    )

  pub are_unions : AreUnions sheet parts
  are_unions = record {
    maximal = λ s. (
      λ m. (choices_of s, are_choices s m, is_union s m.among),
      λ h. union_is_maximal h.0 h.1 s h.2,
    );
    one_union = λ choices are. (let u = union_of choices are in (u.0, u.1, λ other v. one_union_at_most choices u.0 other u.1 v));
    counted = λ lists exact. all_counted lists exact;
    one_choice = λ choices others s are other u v. choices_are others other s v ∙ sym (choices_are choices are s u);
  }

pub maximal_sets_are_unions : MaximalSetsAreUnions
maximal_sets_are_unions sheet parts division rules entries = are_unions sheet parts division rules entries
