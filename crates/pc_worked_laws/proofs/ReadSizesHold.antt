-- What formulas read of a small sheet, by computing.
use Rattle.std.proofs.Common.{◌≡◌, ℕ, inl, inr, Bool, true, false, not, arith, List, [], ◌∷◌, length, map, get_or, Contains, ap, refl, sym, ◌∙◌, subst}
use Rattle.std.specs.List.{AllZip}
use Rattle.std.proofs.lemmas.Bool.{false≢true}
use Rattle.pc_sheet.specs.Sheet.{Sheet, Statement}
use Rattle.pc_sheet.specs.Sizes.{product}
use Rattle.pc_sheet.specs.MaximalSets.{ListsExactly, IsMaximalSet}
use Rattle.pc_sheet.specs.declared.ids.Entry.{Entry}
use Rattle.pc_sheet.specs.declared.ids.ValueId.{ValueId}
use Rattle.pc_laws.specs.Examples.{red, green, entry, equals, is_color}
use Rattle.pc_laws.proofs.Different.{exact_as_long}
use Rattle.pc_parts.specs.Pieces.{looked_up_under}
use Rattle.pc_parts.specs.Parts.{Part, IsFiltered}
use Rattle.pc_parts.specs.PartSheets.{sheet_of}
use Rattle.pc_world_list.specs.Chosen.{chosen_parts}
use Rattle.pc_ask.specs.Asking.{ReadsPart, IsOnRead, AreReadSizes}
use Rattle.pc_lemmas.proofs.Elements.{contains_first, contains_later, contains_cases, contains_none}
use Rattle.pc_worked_laws.specs.PartSheets.{one_is_two}
use Rattle.pc_worked_laws.specs.ReadSizes.{three_parts, WorkedReadSizes}
use Rattle.pc_worked_laws.proofs.Computing.{is_consistent, lists}
use Rattle.pc_worked_laws.proofs.Numbers.{has_number, there, not_there, every, every_is}

-- ---- of any sheet there is one size

module _ {X : Type 0} (P : X → Type 0) where
  filtered_one : (xs ys zs : List X) → IsFiltered P xs ys → IsFiltered P xs zs → ys ≡ zs
  filtered_one [] ys zs h k = h ∙ sym k
  filtered_one (x ∷ xs) ys zs (inl h) (inl k) = filtered_one xs ys zs h.1 k.1
  filtered_one (x ∷ xs) ys zs (inl h) (inr k) = absurd (h.0 k.0)
  filtered_one (x ∷ xs) ys zs (inr h) (inl k) = absurd (k.0 h.0)
  filtered_one (x ∷ xs) ys zs (inr h) (inr k) = h.2 ∙ ap (λ more. x ∷ more) (filtered_one xs h.1 k.1 h.3 k.3) ∙ sym k.2

  taken : (x : X) (xs ys : List X) → P x → IsFiltered P xs ys → IsFiltered P (x ∷ xs) (x ∷ ys)
  taken x xs ys is rest = inr (is, ys, refl, rest)

  left : (x : X) (xs ys : List X) → ¬ P x → IsFiltered P xs ys → IsFiltered P (x ∷ xs) ys
  left x xs ys isnt rest = inl (isnt, rest)

module _ (sheet : Sheet) where
  abbrev AreSets : Part → List (List Entry) → Type 0
  AreSets part own = ListsExactly (List Entry) (IsMaximalSet (sheet_of sheet part)) own

  as_many : (parts : List Part) (ls ms : List (List (List Entry))) → AllZip AreSets parts ls → AllZip AreSets parts ms → map length ls ≡ map length ms
  as_many [] [] [] h k = refl
  as_many [] [] (m ∷ ms) h k = absurd k
  as_many [] (l ∷ ls) ms h k = absurd h
  as_many (p ∷ ps) [] ms h k = absurd h
  as_many (p ∷ ps) (l ∷ ls) [] h k = absurd k
  as_many (p ∷ ps) (l ∷ ls) (m ∷ ms) h k =
      ap (λ n. n ∷ map length ls) (exact_as_long (IsMaximalSet (sheet_of sheet p)) l m h.0 k.0) ∙ ap (λ ns. length m ∷ ns) (as_many ps ls ms h.1 k.1)

  one_size : (f : Statement) (n m i j : ℕ) → AreReadSizes sheet f n m → AreReadSizes sheet f i j → (n ≡ i) × (m ≡ j)
  one_size f n m i j h k =
      let parts : h.parts ≡ k.parts = filtered_one (ReadsPart sheet f) (chosen_parts sheet) h.parts k.parts h.read k.read in
      let on : h.on ≡ k.on = filtered_one (IsOnRead sheet f) sheet.entries h.on k.on h.on_read k.on_read in
      let same = as_many k.parts h.lists k.lists (subst (λ ps. AllZip AreSets ps h.lists) parts h.exact) k.exact in
      (h.entries_are ∙ ap length on ∙ sym k.entries_are, h.sets_are ∙ ap product same ∙ sym k.sets_are)

-- ---- the sheet's parts

abbrev blank : Part
blank = record { cells = []; pieces = [] }

abbrev first : Part
first = get_or (chosen_parts three_parts) 0 blank

abbrev second : Part
second = get_or (chosen_parts three_parts) 1 blank

parts_are : chosen_parts three_parts ≡ first ∷ second ∷ []
parts_are = refl

-- ---- what a formula reads that looks up these cells whatever their values are

abbrev LooksUp : Statement → List ℕ → Type 0
LooksUp f cells = (a : List ValueId) → looked_up_under three_parts.universe a [] f ≡ cells

reads : (f : Statement) (cells : List ℕ) (part : Part) (c : ℕ) → LooksUp f cells → has_number part.cells c ≡ true → has_number cells c ≡ true → ReadsPart three_parts f part
reads f cells part c looks of has =
    let some = is_consistent three_parts 2 (2 ∷ 2 ∷ 2 ∷ []) refl [] refl in
    (c, there part.cells c of, (some.0, some.1.assigns, subst (λ cs. Contains cs c) (sym (looks some.0)) (there cells c has)))

false_from : (b : Bool) → not b ≡ true → b ≡ false
false_from true is = absurd (false≢true is)
false_from false is = refl

reads_not : (f : Statement) (cells : List ℕ) (part : Part) → LooksUp f cells → every (λ c. not (has_number cells c)) part.cells ≡ true → ¬ ReadsPart three_parts f part
reads_not f cells part looks none (c, of, (a, assigns, has)) =
    not_there cells c (false_from (has_number cells c) (every_is (λ d. not (has_number cells d)) part.cells none c of)) (subst (λ cs. Contains cs c) (looks a) has)

-- an entry of one of the two parts
on_first : (f : Statement) (e : Entry) → ReadsPart three_parts f first → has_number first.cells e.cell.0 ≡ true → IsOnRead three_parts f e
on_first f e is of = (first, contains_first first (second ∷ []), is, there first.cells e.cell.0 of)

on_second : (f : Statement) (e : Entry) → ReadsPart three_parts f second → has_number second.cells e.cell.0 ≡ true → IsOnRead three_parts f e
on_second f e is of = (second, contains_later first (second ∷ []) second (contains_first second []), is, there second.cells e.cell.0 of)

on_neither : (f : Statement) (e : Entry) → (ReadsPart three_parts f first → ¬ Contains first.cells e.cell.0) → (ReadsPart three_parts f second → ¬ Contains second.cells e.cell.0) → ¬ IsOnRead three_parts f e
on_neither f e one two (part, has, is, of) = elim (contains_cases first (second ∷ []) part has) [
  | inl same ↦ one (subst (ReadsPart three_parts f) (sym same) is) (subst (λ (p : Part). Contains p.cells e.cell.0) (sym same) of)
  | inr later ↦ elim (contains_cases second [] part later) [
    | inl same ↦ two (subst (ReadsPart three_parts f) (sym same) is) (subst (λ (p : Part). Contains p.cells e.cell.0) (sym same) of)
    | inr nothing ↦ absurd (contains_none part nothing)
  ]
]

-- ---- their sets

abbrev first_sets : List (List Entry)
first_sets = (entry 0 red ∷ []) ∷ (entry 1 green ∷ []) ∷ []

abbrev second_sets : List (List Entry)
second_sets = (entry 2 red ∷ []) ∷ []

are_first : AreSets three_parts first first_sets
are_first = lists (sheet_of three_parts first) 2 (2 ∷ 2 ∷ 2 ∷ []) refl first_sets refl

are_second : AreSets three_parts second second_sets
are_second = lists (sheet_of three_parts second) 2 (2 ∷ 2 ∷ 2 ∷ []) refl second_sets refl

-- ---- sizes

module _ (f : Statement) where
  abbrev R : Part → Type 0
  R = ReadsPart three_parts f

  abbrev On : Entry → Type 0
  On = IsOnRead three_parts f

  -- of the first part alone
  of_first : R first → ¬ R second → AreReadSizes three_parts f 2 2
  of_first one two = record {
    parts = first ∷ [];
    read = taken R first (second ∷ []) [] one (left R second [] [] two refl);
    lists = first_sets ∷ [];
    exact = (are_first, tt);
    sets_are = refl;
    on = entry 0 red ∷ entry 1 green ∷ [];
    on_read = taken On (entry 0 red) (entry 1 green ∷ entry 2 red ∷ []) (entry 1 green ∷ []) (on_first f (entry 0 red) one refl)
        (taken On (entry 1 green) (entry 2 red ∷ []) [] (on_first f (entry 1 green) one refl)
        (left On (entry 2 red) [] [] (on_neither f (entry 2 red) (λ is. not_there first.cells 2 refl) (λ is. absurd (two is))) refl));
    entries_are = refl;
  }

  of_second : ¬ R first → R second → AreReadSizes three_parts f 1 1
  of_second one two = record {
    parts = second ∷ [];
    read = left R first (second ∷ []) (second ∷ []) one (taken R second [] [] two refl);
    lists = second_sets ∷ [];
    exact = (are_second, tt);
    sets_are = refl;
    on = entry 2 red ∷ [];
    on_read = left On (entry 0 red) (entry 1 green ∷ entry 2 red ∷ []) (entry 2 red ∷ []) (on_neither f (entry 0 red) (λ is. absurd (one is)) (λ is. not_there second.cells 0 refl))
        (left On (entry 1 green) (entry 2 red ∷ []) (entry 2 red ∷ []) (on_neither f (entry 1 green) (λ is. absurd (one is)) (λ is. not_there second.cells 1 refl))
        (taken On (entry 2 red) [] [] (on_second f (entry 2 red) two refl) refl));
    entries_are = refl;
  }

  of_both : R first → R second → AreReadSizes three_parts f 3 2
  of_both one two = record {
    parts = first ∷ second ∷ [];
    read = taken R first (second ∷ []) (second ∷ []) one (taken R second [] [] two refl);
    lists = first_sets ∷ second_sets ∷ [];
    exact = (are_first, (are_second, tt));
    sets_are = refl;
    on = entry 0 red ∷ entry 1 green ∷ entry 2 red ∷ [];
    on_read = taken On (entry 0 red) (entry 1 green ∷ entry 2 red ∷ []) (entry 1 green ∷ entry 2 red ∷ []) (on_first f (entry 0 red) one refl)
        (taken On (entry 1 green) (entry 2 red ∷ []) (entry 2 red ∷ []) (on_first f (entry 1 green) one refl)
        (taken On (entry 2 red) [] [] (on_second f (entry 2 red) two refl) refl));
    entries_are = refl;
  }

  of_neither : ¬ R first → ¬ R second → AreReadSizes three_parts f 0 1
  of_neither one two = record {
    parts = [];
    read = left R first (second ∷ []) [] one (left R second [] [] two refl);
    lists = [];
    exact = tt;
    sets_are = refl;
    on = [];
    on_read = left On (entry 0 red) (entry 1 green ∷ entry 2 red ∷ []) [] (none (entry 0 red)) (left On (entry 1 green) (entry 2 red ∷ []) [] (none (entry 1 green)) (left On (entry 2 red) [] [] (none (entry 2 red)) refl));
    entries_are = refl;
  }
    where
      none : (e : Entry) → ¬ On e
      none e = on_neither f e (λ is. absurd (one is)) (λ is. absurd (two is))

one_part : AreReadSizes three_parts (is_color 0 red) 2 2
one_part = of_first (is_color 0 red) (reads (is_color 0 red) (0 ∷ []) first 0 (λ a. refl) refl refl) (reads_not (is_color 0 red) (0 ∷ []) second (λ a. refl) refl)

two_parts : AreReadSizes three_parts (equals 0 2) 3 2
two_parts = of_both (equals 0 2) (reads (equals 0 2) (0 ∷ 2 ∷ []) first 0 (λ a. refl) refl refl) (reads (equals 0 2) (0 ∷ 2 ∷ []) second 2 (λ a. refl) refl refl)

no_cell : AreReadSizes three_parts one_is_two 0 1
no_cell = of_neither one_is_two (reads_not one_is_two [] first (λ a. refl) refl) (reads_not one_is_two [] second (λ a. refl) refl)

pub worked_read_sizes : WorkedReadSizes
worked_read_sizes = record {
  one_part = one_part;
  of_its_cell = λ h. let same = one_size three_parts (is_color 0 red) 1 2 2 2 h one_part in absurd (omega (arith, same.0));
  of_all_cells = λ h. let same = one_size three_parts (is_color 0 red) 3 2 2 2 h one_part in absurd (omega (arith, same.0));
  two_parts = two_parts;
  by_sum = λ h. let same = one_size three_parts (equals 0 2) 3 3 3 2 h two_parts in absurd (omega (arith, same.1));
  blank_part = of_second (equals 2 3) (reads_not (equals 2 3) (2 ∷ 3 ∷ []) first (λ a. refl) refl) (reads (equals 2 3) (2 ∷ 3 ∷ []) second 2 (λ a. refl) refl refl);
  blank_part_alone = of_neither (is_color 3 red) (reads_not (is_color 3 red) (3 ∷ []) first (λ a. refl) refl) (reads_not (is_color 3 red) (3 ∷ []) second (λ a. refl) refl);
  no_cell = no_cell;
  no_way = λ h. let same = one_size three_parts one_is_two 0 0 0 1 h no_cell in absurd (omega (arith, same.1));
}
