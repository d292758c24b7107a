-- Assignments that are joined of one for each part have exactly the maximal sets of the whole.
use Rattle.std.proofs.Common.{◌≡◌, ◌≢◌, ℕ, ◌<◌, ◌≤◌, inl, inr, true, false, List, [], ◌∷◌, ◌++◌, length, map, Option, None, Some, slice_get, All, AllPairs, Contains, arith, eqb-true, eq-eqb, ap, refl, sym, ◌∙◌, subst}
use Rattle.std.specs.List.{AllZip}
use Rattle.std.proofs.lemmas.Bool.{cases_Bool, cases_lt, false≢true}
use Rattle.std.proofs.lemmas.List.{length-map}
use Rattle.std.proofs.lemmas.List.Elements.{All-contains}
use Rattle.std.proofs.lemmas.List.Kept.{AllPairs-filter}
use Rattle.std.proofs.lemmas.List.Sorted.{length_permutation}
use Rattle.std.specs.List.Sorted.{IsPermutation}
use Rattle.pc_sheet.specs.Sheet.{Sheet}
use Rattle.pc_sheet.specs.Entailment.{cell_sizes, IsAssignment, Fits, Shows, HasAll, HasEntry}
use Rattle.pc_sheet.specs.MaximalSets.{ListsExactly, IsMaximalSet, AreRulesConsistent}
use Rattle.pc_sheet.specs.Sizes.{product}
use Rattle.pc_sheet.specs.WellFormed.{IsEntryOf, IsWellFormed}
use Rattle.pc_sheet.specs.declared.ids.ValueId.{ValueId}
use Rattle.pc_sheet.specs.declared.ids.Entry.{Entry}
use Rattle.pc_laws.proofs.Contained.{filter_sub, sub_contained}
use Rattle.pc_lemmas.proofs.Elements.{all_from, contains_first, contains_later, contains_none, contains_mapped, contains_map, kept, kept_is}
use Rattle.pc_parts.specs.Laws.{AgreeAt, AreDivided}
use Rattle.pc_parts.specs.Parts.{Part, AreApart, IsDivision, cell_count}
use Rattle.pc_parts.specs.Components.{parts_of}
use Rattle.pc_parts.specs.PartSheets.{is_on, entries_on, sheet_of}
use Rattle.pc_parts.specs.Unions.{are_some, has_entries, IsInSome, IsUnion, AreChoices, AreUnions}
use Rattle.pc_parts.proofs.Choices.{zip_along, zip_across, zip_differ, zip_from, zip_length, zip_to}
use Rattle.pc_parts.proofs.Consistent.{has_entry_still, part_of}
use Rattle.pc_parts.proofs.Divided.{apart_first, apart_rest, same_part}
use Rattle.pc_parts.proofs.Dividing.{parts_are_a_division}
use Rattle.pc_parts.proofs.Found.{parts_are_found}
use Rattle.pc_parts.proofs.Joining.{among_contains}
use Rattle.pc_parts.proofs.LawsHold.{divisions_divide}
use Rattle.pc_parts.proofs.PartsCells.{parts_are_of_its_cells}
use Rattle.pc_parts.proofs.UnionsHold.{maximal_sets_are_unions}
use Rattle.pc_world_list.specs.Worlds.{WorldView, set_of, AreExact}
use Rattle.pc_world_list.specs.Choices.{cell_number}
use Rattle.pc_world_list.specs.Chosen.{chosen_parts}
use Rattle.pc_reason.specs.Fitting.{IsFitting}
use Rattle.pc_world_list.specs.FewSets.{HasManySets}
use Rattle.pc_repairs.specs.inside.Joining.{IsCapped, IsPartSets, IsSized, had_by, is_had, is_value, joined_by, laid_by_world, laid_over, many_sets, world_had}
use Rattle.pc_repairs.specs.declared.part_sets.PartSets.{PartSets}
use Rattle.pc_repairs.specs.Listed.{ComesFirst}
use Rattle.pc_repairs.specs.Whole.{AreAllSets}
use Rattle.pc_repairs.proofs.Choices.{choices, heads, choice_from, from_choice, choices_differ, length-choices}
use Rattle.pc_repairs.proofs.Exact.{exact_moved}
use Rattle.pc_repairs.proofs.Laid.{laid_here, laid_there, laid_within, within_length}

-- ---- two lists, element by element

zip_mapped : {A B C D : Type 0} (R : A → B → Type 0) (S : C → D → Type 0) (f : A → C) (g : B → D) → ((x : A) (y : B) → R x y → S (f x) (g y)) → (xs : List A) (ys : List B) → AllZip R xs ys → AllZip S (map f xs) (map g ys)
zip_mapped R S f g h [] [] z = tt
zip_mapped R S f g h [] (y ∷ ys) z = absurd z
zip_mapped R S f g h (x ∷ xs) [] z = absurd z
zip_mapped R S f g h (x ∷ xs) (y ∷ ys) z = (h x y z.0, zip_mapped R S f g h xs ys z.1)

zip_over : {A B D : Type 0} (R : A → B → Type 0) (S : A → D → Type 0) (g : B → D) → ((x : A) (y : B) → R x y → S x (g y)) → (xs : List A) (ys : List B) → AllZip R xs ys → AllZip S xs (map g ys)
zip_over R S g h [] [] z = tt
zip_over R S g h [] (y ∷ ys) z = absurd z
zip_over R S g h (x ∷ xs) [] z = absurd z
zip_over R S g h (x ∷ xs) (y ∷ ys) z = (h x y z.0, zip_over R S g h xs ys z.1)

zip_append : {A B : Type 0} (R : A → B → Type 0) (xs : List A) (ys : List B) (us : List A) (vs : List B) → AllZip R xs ys → AllZip R us vs → AllZip R (xs ++ us) (ys ++ vs)
zip_append R [] [] us vs z w = w
zip_append R [] (y ∷ ys) us vs z w = absurd z
zip_append R (x ∷ xs) [] us vs z w = absurd z
zip_append R (x ∷ xs) (y ∷ ys) us vs z w = (z.0, zip_append R xs ys us vs z.1 w)

-- where the relation holds of what stands in the first list
zip_kept : {A B : Type 0} (R S : A → B → Type 0) (xs : List A) (ys : List B) → ((x : A) (y : B) → Contains xs x → R x y → S x y) → AllZip R xs ys → AllZip S xs ys
zip_kept R S [] [] h z = tt
zip_kept R S [] (y ∷ ys) h z = absurd z
zip_kept R S (x ∷ xs) [] h z = absurd z
zip_kept R S (x ∷ xs) (y ∷ ys) h z = (h x y (contains_first x xs) z.0, zip_kept R S xs ys (λ a b there. h a b (contains_later x xs a there)) z.1)

-- ---- what an assignment has

value_is : (o : Option ValueId) (v : ValueId) → is_value o v ≡ true → o ≡ Some v
value_is None v is = absurd (false≢true is)
value_is (Some w) v is = let make : ℕ → ValueId = λ n. record { 0 = n } in ap (λ n. Some (make n)) (eqb-true w.0 v.0 is)

is_of_value : (o : Option ValueId) (v : ValueId) → o ≡ Some v → is_value o v ≡ true
is_of_value o v is = subst (λ p. is_value p v ≡ true) (sym is) (eq-eqb v.0 v.0 refl)

had_is : (a : List ValueId) (e : Entry) → is_had a e ≡ true → HasEntry a e
had_is a e is = value_is (slice_get a e.cell.0) e.value is

is_had_of : (a : List ValueId) (e : Entry) → HasEntry a e → is_had a e ≡ true
is_had_of a e has = is_of_value (slice_get a e.cell.0) e.value has

pub has_all_had : (entries : List Entry) (a : List ValueId) → HasAll a (had_by entries a)
has_all_had entries a = all_from (HasEntry a) (had_by entries a) (λ e there. had_is a e (kept_is (is_had a) entries e there).1)

some_entry : (es : List Entry) (e : Entry) → Contains es e → are_some es ≡ true
some_entry [] e c = absurd (contains_none e c)
some_entry (x ∷ xs) e c = refl

abbrev sets_of : PartSets → List (List Entry)
sets_of q = map set_of q.sets.now

same_numbers : (qs : List PartSets) → map length (map sets_of qs) ≡ map many_sets qs
same_numbers [] = refl
same_numbers (q ∷ qs) = ap (λ n. n ∷ map length (map sets_of qs)) (length-map q.sets.now set_of) ∙ ap (λ ns. many_sets q ∷ ns) (same_numbers qs)

-- what the code makes, step by step
pub worlds_are : (sheet book : Sheet) (entries : List Entry) (all alls : List (List ValueId)) (lent qs : List PartSets) (fitting : List ValueId) (worlds : List WorldView) → book ≡ sheet → entries ≡ book.entries → worlds ≡ map (world_had entries) all
    → all ≡ alls → alls ≡ joined_by fitting lent → lent ≡ qs → worlds ≡ map (world_had sheet.entries) (joined_by fitting qs)
worlds_are sheet book entries all alls lent qs fitting worlds is_book are_entries made same joined lent_are =
    let entries_of : Sheet → List Entry = λ s. s.entries in
    made ∙ (ap (λ es. map (world_had es) all) (are_entries ∙ ap entries_of is_book) ∙ ap (map (world_had sheet.entries)) (same ∙ (joined ∙ ap (joined_by fitting) lent_are)))

module _ (sheet : Sheet) (formed : IsWellFormed sheet) (fitting : List ValueId) (fit : IsFitting sheet fitting) where
  division : IsDivision sheet (parts_of sheet)
  division = parts_are_a_division sheet (parts_of sheet) formed (parts_are_found sheet formed)

  divided : AreDivided sheet (parts_of sheet)
  divided = divisions_divide sheet (parts_of sheet) division

  consistent : AreRulesConsistent sheet
  consistent = (fitting, fit.assigns, fit.fits)

  unions : AreUnions sheet (parts_of sheet)
  unions = maximal_sets_are_unions sheet (parts_of sheet) division consistent formed.entries

  -- on the part's cells the assignment is one that has this maximal set of the part
  abbrev pub Takes : List ValueId → Part → List Entry → Type 0
  Takes a p s = (shown : List ValueId) × IsMaximalSet (sheet_of sheet p) s × Shows (sheet_of sheet p) s shown × AgreeAt (Contains p.cells) shown a

  -- ... of each of the parts, and elsewhere it is the fitting one
  pub record Joins (ps : List Part) (c : List (List Entry)) (a : List ValueId) : Type 0 where
    pub assigns : IsAssignment sheet.universe a
    pub takes : AllZip (Takes a) ps c
    pub rest : AgreeAt (λ x. (p : Part) → Contains ps p → ¬ Contains p.cells x) fitting a

  -- ---- one part more

  module _ (p : Part) (ps : List Part) (apart : (r : Part) → Contains ps r → AreApart p r) (within : (x : ℕ) → Contains p.cells x → x < cell_count sheet.universe) (q : PartSets) (are : IsPartSets sheet p q) where
    on_cells : (x : ℕ) → Contains p.cells x → Contains (map cell_number q.cells.now) x
    on_cells x on = subst (λ ns. Contains ns x) (sym are.cells_are) on

    off_cells : (x : ℕ) → ¬ Contains p.cells x → ¬ Contains (map cell_number q.cells.now) x
    off_cells x off on = off (subst (λ ns. Contains ns x) are.cells_are on)

    shows_of : (w : WorldView) → Contains q.sets.now w → Shows (sheet_of sheet p) w.entries w.shown
    shows_of w has = All-contains (λ v. Shows (sheet_of sheet p) v.entries v.shown) q.sets.now w are.exact.shown has

    joins_more : (w : WorldView) → Contains q.sets.now w → (c : List (List Entry)) (v : List ValueId) → Joins ps c v → Joins (p ∷ ps) (w.entries ∷ c) (laid_over v q.cells.now w.shown)
    joins_more w has c v j =
        let own = shows_of w has in
        record {
          assigns = laid_within (cell_sizes sheet.universe) v q.cells.now w.shown j.assigns own.assigns;
          takes = (
            (w.shown, (are.exact.sets.exact w.entries).0 (contains_map set_of q.sets.now w has), own, λ x on. sym (laid_here (cell_sizes sheet.universe) v q.cells.now w.shown x j.assigns own.assigns (within x on) (on_cells x on))),
            zip_kept (Takes v) (Takes (laid_over v q.cells.now w.shown)) ps c
                (λ r s there t. (t.0, t.1, t.2, λ x on. t.3 x on ∙ sym (laid_there v q.cells.now w.shown x (off_cells x (λ here. apart r there x here on))))) j.takes,
          );
          rest = λ x off. j.rest x (λ r there. off r (contains_later p ps r there)) ∙ sym (laid_there v q.cells.now w.shown x (off_cells x (off p (contains_first p ps))));
        }

    by_world : (ws : List WorldView) → ((w : WorldView) → Contains ws w → Contains q.sets.now w) → (tails : List (List (List Entry))) (all : List (List ValueId)) → AllZip (Joins ps) tails all
        → AllZip (Joins (p ∷ ps)) (heads (map set_of ws) tails) (laid_by_world all q.cells.now ws)
    by_world [] there tails all z = tt
    by_world (w ∷ ws) there tails all z =
        zip_append (Joins (p ∷ ps)) (map (λ t. w.entries ∷ t) tails) (map (λ v. laid_over v q.cells.now w.shown) all) (heads (map set_of ws) tails) (laid_by_world all q.cells.now ws)
        (zip_mapped (Joins ps) (Joins (p ∷ ps)) (λ t. w.entries ∷ t) (λ v. laid_over v q.cells.now w.shown) (joins_more w (there w (contains_first w ws))) tails all z)
        (by_world ws (λ v h. there v (contains_later w ws v h)) tails all z)

  -- ---- all parts

  all_joined : (ps : List Part) (qs : List PartSets) → AllZip (IsPartSets sheet) ps qs → AllPairs AreApart ps → ((p : Part) → Contains ps p → (x : ℕ) → Contains p.cells x → x < cell_count sheet.universe)
      → AllZip (Joins ps) (choices (map sets_of qs)) (joined_by fitting qs)
  all_joined [] [] z apart within = (record { assigns = fit.assigns; takes = tt; rest = λ x off. refl }, tt)
  all_joined [] (q ∷ qs) z apart within = absurd z
  all_joined (p ∷ ps) [] z apart within = absurd z
  all_joined (p ∷ ps) (q ∷ qs) z apart within =
      by_world p ps (apart_first p ps apart) (within p (contains_first p ps)) q z.0 q.sets.now (λ w h. h) (choices (map sets_of qs)) (joined_by fitting qs)
      (all_joined ps qs z.1 (apart_rest p ps apart) (λ r there. within r (contains_later p ps r there)))

  abbrev pub chosen : List Part
  chosen = chosen_parts sheet

  chosen_there : (p : Part) → Contains chosen p → Contains (parts_of sheet) p × (has_entries sheet p ≡ true)
  chosen_there p there = kept_is (has_entries sheet) (parts_of sheet) p there

  -- ---- what a joined assignment is

  module _ (c : List (List Entry)) (a : List ValueId) (j : Joins chosen c a) where
    fits_part : (p : Part) → Contains (parts_of sheet) p → Fits (sheet_of sheet p) a
    fits_part p there = elim (cases_Bool (has_entries sheet p)) [
      | inl some ↦
          let t = (zip_to (Takes a) chosen c j.takes p (kept (has_entries sheet) (parts_of sheet) p there some)).2 in
          divided.own p there t.0 a t.2.assigns t.3 t.2.fits
      | inr none ↦
          divided.own p there fitting a fit.assigns
          (λ x on. j.rest x (λ r chosen_r also. let other = chosen_there r chosen_r in let same : r ≡ p = same_part (parts_of sheet) division.apart r p other.0 there x also on in false≢true (sym none ∙ (ap (has_entries sheet) (sym same) ∙ other.1))))
          ((divided.fits fitting).0 fit.fits p there)
    ]

    fits : Fits sheet a
    fits = (divided.fits a).1 fits_part

    pub joined_shows : Shows sheet (had_by sheet.entries a) a
    joined_shows = record { assigns = j.assigns; fits = fits; has = has_all_had sheet.entries a }

    -- what the part's assignment has of the part's entries is the set
    own_had : (p : Part) (s : List Entry) (t : Takes a p s) → had_by (sheet_of sheet p).entries t.0 ≡ s
    own_had p s t =
        t.1.maximal (had_by (sheet_of sheet p).entries t.0) (filter_sub (is_had t.0) (sheet_of sheet p).entries)
        (t.0, record { assigns = t.2.assigns; fits = t.2.fits; has = has_all_had (sheet_of sheet p).entries t.0 })
        (λ e has. kept (is_had t.0) (sheet_of sheet p).entries e (sub_contained (sheet_of sheet p).entries s t.1.among e has) (is_had_of t.0 e (All-contains (HasEntry t.0) s e t.2.has has)))

    has_some : (e : Entry) → Contains (had_by sheet.entries a) e → IsInSome c e
    has_some e had =
        let h = kept_is (is_had a) sheet.entries e had in
        let found = part_of sheet (parts_of sheet) division e (All-contains (IsEntryOf sheet.universe) sheet.entries e formed.entries.each h.0) in
        let on = kept (is_on found.0.cells) sheet.entries e h.0 found.2 in
        let t = zip_to (Takes a) chosen c j.takes found.0 (kept (has_entries sheet) (parts_of sheet) found.0 found.1 (some_entry (entries_on found.0.cells sheet.entries) e on)) in
        let own : HasEntry t.2.0 e = has_entry_still a t.2.0 e (sym (t.2.3 e.cell.0 (among_contains found.0.cells e.cell.0 found.2))) (had_is a e h.1) in
        (t.0, t.1, subst (λ s. Contains s e) (own_had found.0 t.0 t.2) (kept (is_had t.2.0) (sheet_of sheet found.0).entries e on (is_had_of t.2.0 e own)))

    some_has : (e : Entry) → IsInSome c e → Contains (had_by sheet.entries a) e
    some_has e i =
        let t = zip_from (Takes a) chosen c j.takes i.0 i.1 in
        let on = kept_is (is_on t.0.cells) sheet.entries e (sub_contained (sheet_of sheet t.0).entries i.0 t.2.1.among e i.2) in
        kept (is_had a) sheet.entries e on.0
        (is_had_of a e (has_entry_still t.2.0 a e (t.2.3 e.cell.0 (among_contains t.0.cells e.cell.0 on.1)) (All-contains (HasEntry t.2.0) i.0 e t.2.2.has i.2)))

    pub is_union : IsUnion sheet.entries c (had_by sheet.entries a)
    is_union = record { among = filter_sub (is_had a) sheet.entries; has = λ e. (has_some e, some_has e) }

  -- ---- exactly the maximal sets

  module _ (qs : List PartSets) (are : AllZip (IsPartSets sheet) chosen qs) where
    abbrev lists : List (List (List Entry))
    lists = map sets_of qs

    abbrev IsExact : Part → List (List Entry) → Type 0
    IsExact p sets = ListsExactly (List Entry) (IsMaximalSet (sheet_of sheet p)) sets

    abbrev HasSet : List (List Entry) → List Entry → Type 0
    HasSet sets o = Contains sets o

    abbrev IsMaximalOn : Part → List Entry → Type 0
    IsMaximalOn p o = IsMaximalSet (sheet_of sheet p) o

    exact_lists : AllZip IsExact chosen lists
    exact_lists = zip_over (IsPartSets sheet) IsExact sets_of (λ p q is. is.exact.sets) chosen qs are

    are_of : (c : List (List Entry)) → Contains (choices lists) c → AreChoices sheet (parts_of sheet) c
    are_of c has = zip_along IsExact HasSet IsMaximalOn (λ p sets o is there. (is.exact o).0 there) chosen lists c exact_lists (choice_from lists c has)

    of_are : (c : List (List Entry)) → AreChoices sheet (parts_of sheet) c → Contains (choices lists) c
    of_are c is = from_choice lists c (zip_across IsExact HasSet IsMaximalOn (λ p sets o known m. (known.exact o).1 m) chosen lists c exact_lists is)

    joins : AllZip (Joins chosen) (choices lists) (joined_by fitting qs)
    joins =
        all_joined chosen qs are (AllPairs-filter AreApart (has_entries sheet) (parts_of sheet) division.apart)
        (λ p there x on. cells_within p (chosen_there p there).0 x on)
      where
        cells_within : (p : Part) → Contains (parts_of sheet) p → (x : ℕ) → Contains p.cells x → x < cell_count sheet.universe
        cells_within p there x on = parts_are_of_its_cells sheet (parts_of sheet) formed (parts_are_found sheet formed) p there x on

    abbrev worlds : List WorldView
    worlds = map (world_had sheet.entries) (joined_by fitting qs)

    abbrev IsUnionOf : List (List Entry) → List Entry → Type 0
    IsUnionOf c s = IsUnion sheet.entries c s

    united : AllZip IsUnionOf (choices lists) (map set_of worlds)
    united =
        zip_over (λ c w. IsUnion sheet.entries c (set_of w)) IsUnionOf set_of (λ c w u. u) (choices lists) worlds
        (zip_over (Joins chosen) (λ c w. IsUnion sheet.entries c (set_of w)) (world_had sheet.entries) (λ c a j. is_union c a j) (choices lists) (joined_by fitting qs) joins)

    pub joined_exact : AreExact sheet worlds
    joined_exact = record {
      sets = record {
        exact = λ s. (
          λ there. let u = zip_from IsUnionOf (choices lists) (map set_of worlds) united s there in (unions.maximal s).1 (u.0, are_of u.0 u.1, u.2),
          λ m.
              let known = (unions.maximal s).0 m in
              let u = zip_to IsUnionOf (choices lists) (map set_of worlds) united known.0 (of_are known.0 known.1) in
              let one = unions.one_union known.0 known.1 in
              subst (Contains (map set_of worlds)) (one.2 u.0 u.2 ∙ sym (one.2 s known.2)) u.1,
        );
        different = zip_differ IsUnionOf (choices lists) (map set_of worlds) united (λ c d s c_in d_in u v. unions.one_choice d c s (are_of d d_in) (are_of c c_in) v u)
            (choices_differ lists (λ sets has. (zip_from IsExact chosen lists exact_lists sets has).2.different));
      };
      shown = all_from (λ w. Shows sheet w.entries w.shown) worlds (λ w has.
          let from = contains_mapped (world_had sheet.entries) (joined_by fitting qs) w has in
          let joined = zip_from (Joins chosen) (choices lists) (joined_by fitting qs) joins from.0 from.1 in
          subst (λ v. Shows sheet v.entries v.shown) from.2 (joined_shows joined.0 from.0 joined.2));
    }

    pub many_joined : length worlds ≡ product (map many_sets qs)
    many_joined =
        length-map (joined_by fitting qs) (world_had sheet.entries)
        ∙ (sym (zip_length (Joins chosen) (choices lists) (joined_by fitting qs) joins) ∙ (length-choices lists ∙ ap product (same_numbers qs)))

    pub too_many : 64 < product (map many_sets qs) → HasManySets sheet
    too_many more =
        let counted = unions.counted lists exact_lists in
        (counted.0, counted.1, subst (λ n. 64 < n) (sym (counted.2 ∙ ap product (same_numbers qs))) more)

    -- ---- what the code asks

    pub all_sized : All (IsSized (length fitting)) qs
    all_sized = all_from (IsSized (length fitting)) qs (λ q there. let h = zip_from (IsPartSets sheet) chosen qs are q there in sized h.0 q (chosen_there h.0 h.1).0 h.2)
      where
        many : length fitting ≡ length (cell_sizes sheet.universe)
        many = within_length (cell_sizes sheet.universe) fitting fit.assigns

        sized : (p : Part) (q : PartSets) → Contains (parts_of sheet) p → IsPartSets sheet p q → IsSized (length fitting) q
        sized p q there is = record {
          cells = all_from (λ c. c.0 < length fitting) q.cells.now
              (λ c has. let below = parts_are_of_its_cells sheet (parts_of sheet) formed (parts_are_found sheet formed) p there c.0 (subst (λ ns. Contains ns c.0) is.cells_are (contains_map cell_number q.cells.now c has)) in omega (arith, below, many));
          sets = all_from (λ w. length w.shown ≡ length fitting) q.sets.now
              (λ w has. within_length (cell_sizes sheet.universe) w.shown (All-contains (λ v. Shows (sheet_of sheet p) v.entries v.shown) q.sets.now w is.exact.shown has).assigns ∙ sym many);
        }

    pub none_whole : (count : ℕ) → IsCapped count (product (map many_sets qs)) → 64 < count → HasManySets sheet
    none_whole count c more = elim (cases_lt 64 (product (map many_sets qs))) [
      | inl many ↦ too_many many
      | inr few ↦ absurd (omega (arith, few, more, c.few (omega (arith, few))))
    ]

    pub are_whole : (count : ℕ) → IsCapped count (product (map many_sets qs)) → count ≤ 64 → (sorted : List WorldView) → IsPermutation worlds sorted → AllPairs (ComesFirst sheet.entries) (map set_of sorted) → AreAllSets sheet sorted
    are_whole count c low sorted moved order = record {
      exact = exact_moved sheet worlds joined_exact sorted moved;
      few = omega (arith, length_permutation worlds sorted moved, many_joined, few);
      order = order;
    }
      where
        few : product (map many_sets qs) ≤ 64
        few = elim (cases_lt 64 (product (map many_sets qs))) [ inl many ↦ absurd (omega (arith, low, c.more many)) | inr no_more ↦ omega (arith, no_more) ]
