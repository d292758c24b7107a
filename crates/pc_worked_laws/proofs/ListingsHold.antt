-- Listings, computed.
use Rattle.std.proofs.Common.{◌≡◌, ℕ, List, [], ◌∷◌, ◌++◌, Contains, All, AllPairs, arith, ap, refl, sym, subst, codes}
use Rattle.std.proofs.lemmas.Bool.{false≢true}
use Rattle.std.proofs.lemmas.List.Elements.{All-nil, All-cons, All-contains}
use Rattle.std.proofs.lemmas.List.Kept.{AllPairs-cons}
use Rattle.pc_name.specs.declared.sign.Op.TheVariants.{Ne}
use Rattle.pc_sheet.specs.Sheet.{Sheet, compare}
use Rattle.pc_sheet.specs.MaximalSets.{ListsExactly, IsMaximalSet}
use Rattle.pc_sheet.specs.declared.ids.Entry.{Entry}
use Rattle.pc_laws.specs.Examples.{red, green, entry, cell_side, color_side, equals, two_pairs, never_red}
use Rattle.pc_lemmas.proofs.Elements.{contains_first}
use Rattle.pc_parts.specs.Parts.{Part}
use Rattle.pc_parts.specs.PartSheets.{sheet_of}
use Rattle.pc_accept.specs.SetExamples.{two_ends}
use Rattle.pc_world_list.specs.Chosen.{chosen_parts}
use Rattle.pc_repairs.specs.Listed.{ComesFirst, IsListedPart}
use Rattle.pc_repairs.specs.ListedSheet.{IsListed}
use Rattle.pc_worked_laws.specs.PartSheets.{unnamed, first_pair, second_pair}
use Rattle.pc_worked_laws.specs.Several.{cell_of}
use Rattle.pc_worked_laws.specs.Listings.{of_first, red_end, green_end, WorkedListings}
use Rattle.pc_worked_laws.proofs.Computing.{lacks, listed_decides, lists}

-- ---- the order of sets

-- what is in neither of two sets
abbrev AreInNeither : Entry → Entry → Entry → Type 0
AreInNeither e f x = (¬ Contains (e ∷ []) x) × (¬ Contains (f ∷ []) x)

-- of two entries the one comes first
comes_first : (before after : List Entry) (e f : Entry) → All (AreInNeither e f) before → ¬ Contains (f ∷ []) e → ComesFirst (before ++ e ∷ after) (e ∷ []) (f ∷ [])
comes_first before after e f neither other = record {
  older = before;
  oldest = e;
  newer = after;
  order = refl;
  same = λ x c. let none = All-contains (AreInNeither e f) before x neither c in (λ h. absurd (none.0 h), λ h. absurd (none.1 h));
  has = contains_first e [];
  lacks = other;
}

none_ordered : (entries : List Entry) → AllPairs (ComesFirst entries) []
none_ordered entries i j d below within = absurd (omega (arith, below, within))

one_ordered : (entries s : List Entry) → AllPairs (ComesFirst entries) (s ∷ [])
one_ordered entries s = AllPairs-cons (ComesFirst entries) s [] (All-nil (ComesFirst entries s)) (none_ordered entries)

two_ordered : (entries s t : List Entry) → ComesFirst entries s t → AllPairs (ComesFirst entries) (s ∷ t ∷ [])
two_ordered entries s t first = AllPairs-cons (ComesFirst entries) s (t ∷ []) (All-cons (ComesFirst entries s) t [] first (All-nil (ComesFirst entries s))) (one_ordered entries t)

older_first : ComesFirst two_ends.entries red_end green_end
older_first = comes_first [] green_end (entry 0 red) (entry 2 green) (All-nil (AreInNeither (entry 0 red) (entry 2 green))) (lacks green_end (entry 0 red) refl)

same_head : (x y : Entry) (xs ys : List Entry) → x ∷ xs ≡ y ∷ ys → x ≡ y
same_head x y xs ys is = cc

-- what is before the oldest has the first entry, which only the one set has
newer_first : (older newer : List Entry) (oldest : Entry) → two_ends.entries ≡ older ++ oldest ∷ newer → ((e : Entry) → Contains older e → Contains red_end e → Contains green_end e) → ¬ Contains green_end oldest
newer_first [] newer oldest order same has = lacks green_end (entry 0 red) refl (subst (Contains green_end) (sym (same_head (entry 0 red) oldest green_end newer order)) has)
newer_first (x ∷ older) newer oldest order same has =
    let first = same_head (entry 0 red) x green_end (older ++ oldest ∷ newer) order in
    lacks green_end (entry 0 red) refl (same (entry 0 red) (subst (Contains (x ∷ older)) (sym first) (contains_first x older)) (contains_first (entry 0 red) []))

not_newer : ¬ ComesFirst two_ends.entries green_end red_end
not_newer f = newer_first f.older f.newer f.oldest f.order (λ e c. (f.same e c).1) f.has

-- ---- the sheets of the parts

abbrev ends_sheet : Sheet
ends_sheet = record two_ends { rules = unnamed (equals 0 1) ∷ unnamed (equals 1 2) ∷ [] }

abbrev never_sheet : Sheet
never_sheet = record never_red.sheet { rules = unnamed (compare (cell_side 0) Ne (color_side red)) ∷ [] }

abbrev others : List ℕ
others = 2 ∷ 2 ∷ []

abbrev first_before : List Entry
first_before = entry 0 red ∷ entry 1 green ∷ []

second_neither : All (AreInNeither (entry 2 red) (entry 3 green)) first_before
second_neither =
    let P : Entry → Type 0 = AreInNeither (entry 2 red) (entry 3 green) in
    All-cons P (entry 0 red) (entry 1 green ∷ []) (lacks (entry 2 red ∷ []) (entry 0 red) refl, lacks (entry 3 green ∷ []) (entry 0 red) refl)
    (All-cons P (entry 1 green) [] (lacks (entry 2 red ∷ []) (entry 1 green) refl, lacks (entry 3 green ∷ []) (entry 1 green) refl) (All-nil P))

abbrev of_two : Entry → Entry → List (List Entry)
of_two e f = (e ∷ []) ∷ (f ∷ []) ∷ []

ends_listed : ListsExactly (List Entry) (IsMaximalSet ends_sheet) (red_end ∷ green_end ∷ [])
ends_listed = lists ends_sheet 2 others refl (red_end ∷ green_end ∷ []) refl

two_parts : IsListed two_pairs.sheet (codes "part a\n  keep a = red\n  keep b = green\n" ++ codes "part c\n  keep c = red\n  keep d = green\n")
two_parts = (
  of_first (of_two (entry 0 red) (entry 1 green)) ∷ (record { cell = cell_of 2; sets = of_two (entry 2 red) (entry 3 green) }) ∷ [],
  (
    record {
      later = 1 ∷ [];
      first = refl;
      exact = lists first_pair 2 (2 ∷ 2 ∷ 2 ∷ []) refl (of_two (entry 0 red) (entry 1 green)) refl;
      order = two_ordered two_pairs.sheet.entries (entry 0 red ∷ []) (entry 1 green ∷ []) first_in_order;
    },
    (
      record {
        later = 3 ∷ [];
        first = refl;
        exact = lists second_pair 2 (2 ∷ 2 ∷ 2 ∷ []) refl (of_two (entry 2 red) (entry 3 green)) refl;
        order = two_ordered two_pairs.sheet.entries (entry 2 red ∷ []) (entry 3 green ∷ []) second_in_order;
      },
      tt,
    ),
  ),
  refl,
)
  where
    first_in_order : ComesFirst two_pairs.sheet.entries (entry 0 red ∷ []) (entry 1 green ∷ [])
    first_in_order =
        comes_first [] (entry 1 green ∷ entry 2 red ∷ entry 3 green ∷ []) (entry 0 red) (entry 1 green) (All-nil (AreInNeither (entry 0 red) (entry 1 green))) (lacks (entry 1 green ∷ []) (entry 0 red) refl)

    second_in_order : ComesFirst two_pairs.sheet.entries (entry 2 red ∷ []) (entry 3 green ∷ [])
    second_in_order = comes_first first_before (entry 3 green ∷ []) (entry 2 red) (entry 3 green) second_neither (lacks (entry 3 green ∷ []) (entry 2 red) refl)

-- the sheet of the first of parts
abbrev sheet_of_first : List Part → Sheet
sheet_of_first [] = ends_sheet
sheet_of_first (part ∷ parts) = sheet_of two_ends part

left_out : (part : Part) → chosen_parts two_ends ≡ part ∷ [] → ¬ IsListedPart two_ends part (of_first (red_end ∷ []))
left_out part is h =
    let largest : IsMaximalSet ends_sheet green_end = (ends_listed.exact green_end).0 ((listed_decides (red_end ∷ green_end ∷ []) green_end).0 refl) in
    let there = (h.exact.exact green_end).1 (subst (λ sheet. IsMaximalSet sheet green_end) (ap sheet_of_first is) largest) in
    false≢true ((listed_decides (red_end ∷ []) green_end).1 there)

pub worked_listings : WorkedListings
worked_listings = record {
  two_sets = (
    of_first (red_end ∷ green_end ∷ []) ∷ [],
    (record { later = 1 ∷ 2 ∷ []; first = refl; exact = ends_listed; order = two_ordered two_ends.entries red_end green_end older_first }, tt),
    refl,
  );
  two_parts = two_parts;
  nothing = (
    of_first ([] ∷ []) ∷ [],
    (record { later = []; first = refl; exact = lists never_sheet 2 [] refl ([] ∷ []) refl; order = one_ordered never_red.sheet.entries [] }, tt),
    refl,
  );
  no_part = ([], tt, refl);
  older_first = older_first;
  not_newer = not_newer;
  not_itself = λ f. f.lacks f.has;
  turned = λ part h. not_newer (h.order 0 1 [] (omega arith) (omega arith));
  left_out = left_out;
}
