-- Edits that change nothing, and spare entries.
use Rattle.std.proofs.Common.{◌≡◌, ℕ, zero, suc, ◌+◌, ◌<◌, ◌≤◌, inl, inr, Bool, true, false, not, ◌&&◌, cond, eqb, eq-eqb, arith, List, [], ◌∷◌, ◌++◌, filter, Option, None, Some, Contains, All, ap, refl, sym, ◌∙◌, subst}
use Rattle.std.specs.List.{list_any}
use Rattle.std.specs.Bool.{beq}
use Rattle.std.proofs.lemmas.Bool.{cases_Bool, eqb-true, ne_eqb, false≢true, and_from}
use Rattle.std.proofs.lemmas.List.Elements.{All-head, All-nil, All-cons, All-weaker, Contains-append_right}
use Rattle.pc_sheet.specs.Sheet.{Sheet}
use Rattle.pc_sheet.specs.Entailment.{IsLeastSupport}
use Rattle.pc_sheet.specs.WellFormed.{is_of_cell, entries_of}
use Rattle.pc_sheet.specs.declared.ids.CellId.{CellId}
use Rattle.pc_sheet.specs.declared.ids.Entry.{Entry}
use Rattle.pc_sheet.specs.declared.ids.ValueId.{ValueId}
use Rattle.pc_sheet.specs.declared.ids.Target.{Target}
use Rattle.pc_laws.specs.Examples.{IsShownFor, red, green, entry, target}
use Rattle.pc_laws.proofs.Finding.{find, shown, is_display, computed}
use Rattle.pc_lemmas.proofs.Elements.{contains_first, contains_later, contains_cases, contains_none, all_from, kept, kept_is, kept_all}
use Rattle.pc_books.specs.Edits.{is_same_entry, agrees_with}
use Rattle.pc_books.proofs.EntryLemmas.{same_is, standing_found, found_standing}
use Rattle.pc_reason.specs.Reasons.{Justification}
use Rattle.pc_reason.specs.Targets.{IsTargetIn}
use Rattle.pc_cache.specs.Rows.{TargetRow, is_same_target, row_of}
use Rattle.pc_justify_laws.specs.Edits.{takes_none, HasNone}
use Rattle.pc_search.specs.Found.{steps_in}
use Rattle.pc_session.specs.Views.{SessionView}
use Rattle.pc_session.specs.Arena.{IsLeft}
use Rattle.pc_session.specs.Answers.{OthersStay, IsUnchanged, AreSpare, StandsAlone, HasPlaceFor}
use Rattle.pc_worked_laws.specs.Rows.{a_red, b_red, from, with_row, red_here, not_red_here}
use Rattle.pc_worked_laws.specs.Several.{cell_of, views, with_views, first_views}
use Rattle.pc_worked_laws.specs.Spare.{EnteringMayChange, AddingMayChange, RemovingMayChange, ClearingMayChange, value_of, by_steps, two_parts, second_red, third_red, seen, WorkedPlaces, WorkedSpare, WorkedReasons, WorkedSessions}
use Rattle.pc_worked_laws.proofs.Computing.{has, lacks, both, distinct, same_least}

abbrev with_entries : Sheet → List Entry → Sheet
with_entries sheet es = record sheet { entries = es }

entries_in : Sheet → List Entry
entries_in sheet = sheet.entries

-- ---- tests of entries

same_itself : (e : Entry) → is_same_entry e e ≡ true
same_itself e = and_from (eqb e.cell.0 e.cell.0) (eqb e.value.0 e.value.0) (eq-eqb e.cell.0 e.cell.0 refl) (eq-eqb e.value.0 e.value.0 refl)

agrees_by : (a b : Bool) → b ≡ true → not (a && not b) ≡ true
agrees_by true true is = refl
agrees_by true false is = absurd (false≢true is)
agrees_by false b is = refl

agrees_itself : (e : Entry) → agrees_with e e ≡ true
agrees_itself e = agrees_by (is_of_cell e.cell e) (eqb e.value.0 e.value.0) (eq-eqb e.value.0 e.value.0 refl)

same_by : (a b : Bool) → a ≡ true → not (a && not b) ≡ true → a && b ≡ true
same_by true true is agrees = refl
same_by true false is agrees = agrees
same_by false b is agrees = absurd (false≢true is)

agreeing_same : (e f : Entry) → is_of_cell e.cell f ≡ true → agrees_with e f ≡ true → f ≡ e
agreeing_same e f of_cell agrees = same_is e f (same_by (is_of_cell e.cell f) (eqb f.value.0 e.value.0) of_cell agrees)

-- what a filter keeps whole passes
all_pass : (p : Entry → Bool) (es : List Entry) → filter p es ≡ es → (e : Entry) → Contains es e → p e ≡ true
all_pass p es whole e c = (kept_is p es e (subst (λ fs. Contains fs e) (sym whole) c)).1

newest : (es : List Entry) (e : Entry) → Contains (es ++ e ∷ []) e
newest es e = Contains-append_right es (e ∷ []) e (contains_first e [])

isnt : (b : Bool) → not b ≡ true → b ≡ false
isnt true is = absurd (false≢true is)
isnt false is = refl

-- ---- entering

left_has : (e : Entry) (es : List Entry) → Contains es e → list_any (is_same_entry e) (filter (agrees_with e) es) ≡ true
left_has e es c = standing_found e (filter (agrees_with e) es) (kept (agrees_with e) es e c (agrees_itself e))

alone_whole : (e : Entry) (es : List Entry) → All (λ f. f ≡ e) (entries_of e.cell es) → filter (agrees_with e) es ≡ es
alone_whole e es alone = kept_all (agrees_with e) es (λ f c. elim (cases_Bool (is_of_cell e.cell f)) [
  | inl of_cell ↦
      let only : All (λ x. x ≡ e) (entries_of e.cell es) = alone in
      let same : f ≡ e = only_one f (kept (is_of_cell e.cell) es f c of_cell) in
      subst (λ x. agrees_with e x ≡ true) (sym same) (agrees_itself e)
  | inr other ↦ ap (λ a. not (a && not (eqb f.value.0 e.value.0))) other
])
  where
    only_one : (f : Entry) → Contains (entries_of e.cell es) f → f ≡ e
    only_one f there = subst (λ x. x ≡ e) there.2 (alone there.0 f there.1)

standing : (e : Entry) (es : List Entry) (b : Bool) → list_any (is_same_entry e) (filter (agrees_with e) es) ≡ b
    → cond b (filter (agrees_with e) es) (filter (agrees_with e) es ++ e ∷ []) ≡ es → StandsAlone es e
standing e es true found whole =
    let stands = (kept_is (agrees_with e) es e (found_standing e (filter (agrees_with e) es) found)).0 in
    (stands, all_from (λ f. f ≡ e) (entries_of e.cell es) (λ f c. agreeing_same e f (kept_is (is_of_cell e.cell) es f c).1 (all_pass (agrees_with e) es whole f (kept_is (is_of_cell e.cell) es f c).0)))
standing e es false found whole = absurd (false≢true (sym found ∙ left_has e es (subst (λ fs. Contains fs e) whole (newest (filter (agrees_with e) es) e))))

pub entering : EnteringMayChange
unfolding entries_in
entering sheet e = (
  λ alone.
      ap (λ b. with_entries sheet (cond b (filter (agrees_with e) sheet.entries) (filter (agrees_with e) sheet.entries ++ e ∷ []))) (left_has e sheet.entries alone.0)
      ∙ ap (with_entries sheet) (alone_whole e sheet.entries alone.1),
  λ same. standing e sheet.entries (list_any (is_same_entry e) (filter (agrees_with e) sheet.entries)) refl (ap entries_in same),
)

-- ---- entering beside others

present : (e : Entry) (es : List Entry) (b : Bool) → list_any (is_same_entry e) es ≡ b → cond b es (es ++ e ∷ []) ≡ es → Contains es e
present e es true found whole = found_standing e es found
present e es false found whole = subst (λ fs. Contains fs e) whole (newest es e)

pub adding : AddingMayChange
unfolding entries_in
adding sheet e = (
  λ there. ap (λ b. with_entries sheet (cond b sheet.entries (sheet.entries ++ e ∷ []))) (standing_found e sheet.entries there),
  λ same. present e sheet.entries (list_any (is_same_entry e) sheet.entries) refl (ap entries_in same),
)

-- ---- taking away

pub removing : RemovingMayChange
unfolding entries_in
removing sheet e = (
  λ none. ap (with_entries sheet) (kept_all (λ f. not (is_same_entry e f)) sheet.entries (λ f c. elim (cases_Bool (is_same_entry e f)) [
    | inl same ↦ absurd (none (subst (Contains sheet.entries) (same_is e f same) c))
    | inr other ↦ ap not other
  ])),
  λ same c. false≢true (ap not (sym (same_itself e)) ∙ all_pass (λ f. not (is_same_entry e f)) sheet.entries (ap entries_in same) e c),
)

no_contents : (es : List Entry) → ((e : Entry) → ¬ Contains es e) → es ≡ []
no_contents [] none = refl
no_contents (e ∷ es) none = absurd (none e (contains_first e es))

pub clearing : ClearingMayChange
unfolding entries_in
clearing sheet c = (
  λ none. ap (with_entries sheet) (kept_all (λ f. not (is_of_cell c f)) sheet.entries (λ f has. elim (cases_Bool (is_of_cell c f)) [
    | inl of_cell ↦ absurd (contains_none f (subst (λ fs. Contains fs f) none (kept (is_of_cell c) sheet.entries f has of_cell)))
    | inr other ↦ ap not other
  ])),
  λ same. no_contents (entries_of c sheet.entries) (λ f has.
      let parts = kept_is (is_of_cell c) sheet.entries f has in
      false≢true (ap not (sym parts.1) ∙ all_pass (λ f. not (is_of_cell c f)) sheet.entries (ap entries_in same) f parts.0)),
)

-- ---- places

abbrev number_of : Entry → ℕ
number_of e = e.value.0

not_alone : ¬ StandsAlone views (entry 0 red)
not_alone h = let is : 1 ≡ 0 = ap number_of (h.1 1 (entry 0 red) (omega arith)) in absurd (omega (arith, is))

no_place : ¬ HasPlaceFor (first_views 8) (value_of 8)
no_place (inl there) = lacks (first_views 8) (value_of 8) refl there
no_place (inr few) = let below : 8 < 8 = few in absurd (omega (arith, below))

pub worked_places : WorkedPlaces
worked_places = record {
  alone = (has views (entry 2 red) refl, All-cons (λ f. f ≡ entry 2 red) (entry 2 red) [] refl (All-nil (λ f. f ≡ entry 2 red)));
  beside = not_alone;
  another = λ h. lacks views (entry 2 green) refl h.0;
  none = λ h. lacks views (entry 1 red) refl h.0;
  place = (let few : 2 < 8 = omega arith in inr few);
  no_place = no_place;
  in_its_place = inl (has (first_views 8) (value_of 7) refl);
}

-- ---- spare entries

abbrev all_of : (Entry → Bool) → List Entry → Bool
all_of p [] = true
all_of p (e ∷ es) = p e && all_of p es

all_are : (p : Entry → Bool) (es : List Entry) → all_of p es ≡ true → All (λ e. p e ≡ true) es
all_are p [] is = All-nil (λ e. p e ≡ true)
all_are p (e ∷ es) is = let parts = both (p e) (all_of p es) is in All-cons (λ e. p e ≡ true) e es parts.0 (all_are p es parts.1)

-- of what is found, each entry is of the first cell
abbrev is_of_first : Option (List Entry) → Bool
is_of_first None = true
is_of_first (Some s) = all_of (is_of_cell (cell_of 0)) s

abbrev AreOfFirst : List Entry → Type 0
AreOfFirst s = All (λ e. is_of_cell (cell_of 0) e ≡ true) s

by_found : (t : Target) (o : Option (List Entry)) → IsShownFor with_views t o → is_of_first o ≡ true → (s : List Entry) → IsLeastSupport with_views s t → AreOfFirst s
by_found t None none is s l = absurd (none (s, l.supports))
by_found t (Some w) found is s l = subst AreOfFirst (sym (same_least with_views w s t found l)) (all_are (is_of_cell (cell_of 0)) w is)

abbrev at : ℕ → ℕ → Bool → Target
at c v b = record { cell = record { 0 = c }; value = record { 0 = v }; holds = b }

each_found : (c v : ℕ) (b : Bool) → IsTargetIn with_views.universe (at c v b) → is_of_first (find with_views (at c v b)) ≡ true
each_found zero zero true h = refl
each_found zero zero false h = refl
each_found zero (suc zero) true h = refl
each_found zero (suc zero) false h = refl
each_found zero (suc (suc v)) b h = absurd (omega (arith, h))
each_found (suc zero) zero true h = refl
each_found (suc zero) zero false h = refl
each_found (suc zero) (suc zero) true h = refl
each_found (suc zero) (suc zero) false h = refl
each_found (suc zero) (suc (suc v)) b h = absurd (omega (arith, h))
each_found (suc (suc zero)) zero true h = refl
each_found (suc (suc zero)) zero false h = refl
each_found (suc (suc zero)) (suc zero) true h = refl
each_found (suc (suc zero)) (suc zero) false h = refl
each_found (suc (suc zero)) (suc (suc v)) b h = absurd (omega (arith, h))
each_found (suc (suc (suc c))) v b h = absurd h

-- what takes none of the first cell's entries
spare : (gone : Entry → Bool) → ((e : Entry) → e.cell.0 ≡ 0 → gone e ≡ false) → AreSpare with_views gone
spare gone others t s of_sheet l =
    let apart = distinct with_views.entries refl in
    let found = shown with_views t (find with_views t) apart refl in
    All-weaker (λ e. is_of_cell (cell_of 0) e ≡ true) (λ e. gone e ≡ false) (λ e is. others e (eqb-true e.cell.0 0 is)) s
    (by_found t (find with_views t) found (each_found t.cell.0 t.value.0 t.holds of_sheet) s l)

least_of : (c : ℕ) (v : ValueId) (s : List Entry) → is_display with_views ((target c v, Some s) ∷ []) ≡ true → IsLeastSupport with_views s (target c v)
least_of c v s is = All-head (λ p. IsShownFor with_views p.0 p.1) (target c v, Some s) [] (computed with_views ((target c v, Some s) ∷ []) is)

first_isnt : (gone : Entry → Bool) (e : Entry) → HasNone gone (e ∷ []) → gone e ≡ false
first_isnt gone e h = All-head (λ f. gone f ≡ false) e [] h

needed : (gone : Entry → Bool) (v : ValueId) → IsTargetIn with_views.universe (target 1 v) → IsLeastSupport with_views (entry 0 v ∷ []) (target 1 v) → gone (entry 0 v) ≡ true → ¬ AreSpare with_views gone
needed gone v of_sheet l is spare = false≢true (sym (first_isnt gone (entry 0 v) (spare (target 1 v) (entry 0 v ∷ []) of_sheet l)) ∙ is)

pub worked_spare : WorkedSpare
worked_spare = record {
  newer = spare (is_same_entry (entry 2 red)) (λ e is. ap (λ n. eqb n 2 && eqb e.value.0 0) is);
  of_its_cell = spare (is_of_cell (cell_of 2)) (λ e is. ap (λ n. eqb n 2) is);
  of_no_entry = spare (is_of_cell (cell_of 1)) (λ e is. ap (λ n. eqb n 1) is);
  nothing = spare takes_none (λ e is. refl);
  red_needed = needed (is_same_entry (entry 0 red)) red (omega arith) (least_of 1 red (entry 0 red ∷ []) refl) refl;
  green_needed = needed (is_same_entry (entry 0 green)) green (omega arith) (least_of 1 green (entry 0 green ∷ []) refl) refl;
  cell_needed = needed (is_of_cell (cell_of 0)) red (omega arith) (least_of 1 red (entry 0 red ∷ []) refl) refl;
}

-- ---- reasons

-- what one row gives
given : (b : Bool) (o : Option Justification) (j : Justification) → cond b o None ≡ Some j → o ≡ Some j
given true o j is = is
given false o j is = absurd (cc)

no_row : (b : Bool) (j : Justification) → ¬ (cond b None None ≡ Some j)
no_row true j is = absurd (cc)
no_row false j is = absurd (cc)

same_reason : (i j : Justification) → Some i ≡ Some j → i ≡ j
same_reason i j is = cc

gone_none : (gone : Entry → Bool) (e : Entry) → gone e ≡ false → HasNone gone (e ∷ [])
gone_none gone e is = All-cons (λ f. gone f ≡ false) e [] is (All-nil (λ f. gone f ≡ false))

may_go : (b : Bool) (j : Justification) → cond b (Some (from a_red)) None ≡ Some j → ¬ HasNone (is_same_entry a_red) j.support
may_go b j row none =
    let is : from a_red ≡ j = same_reason (from a_red) j (given b (Some (from a_red)) j row) in
    false≢true (sym (first_isnt (is_same_entry a_red) a_red (subst (λ i. HasNone (is_same_entry a_red) i.support) (sym is) none)))

unused : (b c : Bool) (j : Justification) → cond b (Some (from b_red)) (cond c None None) ≡ Some j → HasNone (is_same_entry a_red) j.support
unused true c j row = subst (λ i. HasNone (is_same_entry a_red) i.support) (same_reason (from b_red) j row) (gone_none (is_same_entry a_red) b_red refl)
unused false c j row = absurd (no_row c j row)

two : steps_in by_steps.lines ≡ 2
two = refl

first_number : Option Justification → ℕ
first_number None = 2
first_number (Some j) = number_in j.support
  where
    number_in : List Entry → ℕ
    number_in [] = 2
    number_in (e ∷ es) = e.cell.0

others_differ : ¬ (Some (from b_red) ≡ Some (from a_red))
unfolding first_number
others_differ is = let numbers : 1 ≡ 0 = ap first_number is in absurd (omega (arith, numbers))

pub worked_reasons : WorkedReasons
worked_reasons = record {
  may_go = λ t j row none. absurd (may_go (is_same_target red_here t) j row none);
  must_stay = λ h. absurd (cc (h red_here (from a_red) refl (gone_none takes_none a_red refl)));
  must_stay_of_another = λ h. absurd (cc (h red_here (from a_red) refl (gone_none (is_same_entry b_red) a_red refl)));
  must_be_the_same = λ h. others_differ (h red_here (from a_red) refl (gone_none takes_none a_red refl));
  new_ones_come = λ t j row none. absurd (no_row (is_same_target red_here t) j row);
  unused = λ t j row. unused (is_same_target red_here t) (is_same_target not_red_here t) j row;
  used = λ h. false≢true (sym (first_isnt (is_same_entry a_red) a_red (h red_here (from a_red) refl)));
  two_steps = λ t j row. inr (subst (λ i. steps_in i.lines ≤ 1 + 1) (same_reason by_steps j (given (is_same_target red_here t) (Some by_steps) j row)) (omega (arith, two)));
  one_spent = λ h. elim (h red_here by_steps refl) [ inl none ↦ absurd (cc) | inr few ↦ absurd (omega (arith, few, two)) ];
  stood_before = λ t j row. inl row;
  kept = refl;
  dropped = refl;
}

-- ---- sessions

abbrev first_part : List CellId
first_part = cell_of 0 ∷ cell_of 1 ∷ []

other_cell : (m n : ℕ) → cell_of m ≡ cell_of n → m ≡ n
other_cell m n e = ap (λ (c : CellId). c.0) e

third_is_none : ¬ Contains first_part (cell_of 2)
third_is_none there = elim (contains_cases (cell_of 0) (cell_of 1 ∷ []) (cell_of 2) there) [
  | inl e ↦ let n : 0 ≡ 2 = other_cell 0 2 e in absurd (omega (arith, n))
  | inr later ↦ elim (contains_cases (cell_of 1) [] (cell_of 2) later) [
    | inl e ↦ let n : 1 ≡ 2 = other_cell 1 2 e in absurd (omega (arith, n))
    | inr none ↦ absurd (contains_none (cell_of 2) none)
  ]
]

-- the part of the first cell has the second one
has_second : (cells : List CellId) → Contains two_parts.cells cells → Contains cells (cell_of 0) → Contains cells (cell_of 1)
has_second cells of_parts has_first = elim (contains_cases first_part ((cell_of 2 ∷ []) ∷ []) cells of_parts) [
  | inl is ↦ subst (λ (cs : List CellId). Contains cs (cell_of 1)) is (contains_later (cell_of 0) (cell_of 1 ∷ []) (cell_of 1) (contains_first (cell_of 1) []))
  | inr later ↦ elim (contains_cases (cell_of 2 ∷ []) [] cells later) [
    | inl is ↦ elim (contains_cases (cell_of 2) [] (cell_of 0) (subst (λ (cs : List CellId). Contains cs (cell_of 0)) (sym is) has_first)) [
      | inl e ↦ let n : 2 ≡ 0 = other_cell 2 0 e in absurd (omega (arith, n))
      | inr none ↦ absurd (contains_none (cell_of 0) none)
    ]
    | inr none ↦ absurd (contains_none cells none)
  ]
]

own_part : OthersStay (cell_of 0) two_parts (with_row second_red (Some (from a_red)) ∷ with_row third_red (Some (from b_red)) ∷ []) (with_row third_red (Some (from b_red)) ∷ [])
own_part cells t of_parts has_first lacks_it =
    let other : eqb 1 t.cell.0 ≡ false = ne_eqb 1 t.cell.0 (λ same. lacks_it (subst (Contains cells) (ap cell_of same) (has_second cells of_parts has_first))) in
    let rest : Option Justification = row_of (with_row third_red (Some (from b_red)) ∷ []) t in
    sym (ap (λ (b : Bool). cond (b && (eqb 0 t.value.0 && beq true t.holds)) (Some (from a_red)) rest) other)

no_rows : (r : TargetRow) (rs : List TargetRow) → [] ≡ r ∷ rs → ⊥
no_rows r rs e = absurd (cc)

many_left : IsLeft 1048577 1048577 0 0
many_left = inr (omega arith, omega arith, refl)

few_left : ¬ IsUnchanged (seen 5 [] 1048576 1048576) (seen 5 [] 0 0)
few_left (all, inl same) = let n : 0 ≡ 1048576 = same.0 in absurd (omega (arith, n))
few_left (all, inr left) = let many : 1048576 < 1048576 = left.0 in absurd (omega (arith, many))

some_more : ¬ IsUnchanged (seen 5 [] 1048577 1048577) (seen 5 [] 1 0)
some_more (all, inl same) = let n : 1 ≡ 1048577 = same.0 in absurd (omega (arith, n))
some_more (all, inr left) = let exact : 1 + 1048577 ≡ 1048577 = left.1 in absurd (omega (arith, exact))

needed_gone : ¬ IsUnchanged (seen 5 [] 1048577 1048576) (seen 5 [] 0 0)
needed_gone (all, inl same) = let n : 0 ≡ 1048577 = same.0 in absurd (omega (arith, n))
needed_gone (all, inr left) = let exact : 0 + 1048576 ≡ 1048577 = left.1 in absurd (omega (arith, exact))

still_spare : ¬ IsUnchanged (seen 5 [] 1048578 1048578) (seen 5 [] 1 1)
still_spare (all, inl same) = let n : 1 ≡ 1048578 = same.0 in absurd (omega (arith, n))
still_spare (all, inr left) = let none : 1 ≡ 0 = left.2 in absurd (omega (arith, none))

pub worked_sessions : WorkedSessions
worked_sessions = record {
  own_part = own_part;
  other_part = λ h. absurd (cc (h first_part third_red (contains_first first_part ((cell_of 2 ∷ []) ∷ [])) (contains_first (cell_of 0) (cell_of 1 ∷ [])) third_is_none));
  other_part_gains = λ h. absurd (cc (h first_part third_red (contains_first first_part ((cell_of 2 ∷ []) ∷ [])) (contains_first (cell_of 0) (cell_of 1 ∷ [])) third_is_none));
  as_it_was = (refl, inl (refl, refl));
  many_dropped = (refl, many_left);
  few_dropped = few_left;
  some_added = some_more;
  needed_dropped = needed_gone;
  some_left = still_spare;
  row_dropped = λ h. no_rows _ _ (ap (λ (v : SessionView). v.rows) h.0);
  other_budget = λ h. let n : 6 ≡ 5 = ap (λ (v : SessionView). v.budget) h.0 in absurd (omega (arith, n));
}
