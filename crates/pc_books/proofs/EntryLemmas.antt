-- Lists of different entries, few of each cell, and what edits make of them.
use Rattle.std.proofs.Common.{◌≡◌, ◌≢◌, ℕ, zero, suc, ◌<◌, ◌≤◌, ◌⊎◌, inl, inr, Bool, true, false, cond, not, eqb, eq-eqb, ◌&&◌, ◌||◌, List, [], ◌∷◌, ◌++◌, length, All, AllPairs, Contains, arith, ap, ◌∙◌, sym, refl, subst, filter}
use Rattle.std.specs.List.{list_any}
use Rattle.std.proofs.lemmas.Bool.{cases_eq, eqb-true, true≢false, false≢true}
use Rattle.std.proofs.lemmas.List.{length-append}
use Rattle.std.proofs.lemmas.List.Quantifiers.{all_pairs_push}
use Rattle.std.proofs.lemmas.List.Elements.{All-push, All-filter, filter-append}
use Rattle.std.proofs.lemmas.List.Kept.{AllPairs-filter}
use Rattle.std.proofs.lemmas.Map.Views.{any-filter_same}
use Rattle.pc_sheet.specs.Limits.{most_entries}
use Rattle.pc_sheet.specs.Sheet.{Universe}
use Rattle.pc_sheet.specs.WellFormed.{AreWellFormedEntries, IsEntryOf, is_of_cell, entries_of}
use Rattle.pc_sheet.specs.declared.ids.CellId.{CellId}
use Rattle.pc_sheet.specs.declared.ids.Entry.{Entry}
use Rattle.pc_lemmas.proofs.Elements.{all_from, contains_first, contains_later, contains_cases, contains_none}
use Rattle.pc_books.specs.Edits.{is_same_entry, agrees_with, added_to, entered_to}

-- ---- pairs

module _ {X : Type 0} (R : X → X → Type 0) where
  pub pairs_head : (x : X) (xs : List X) → AllPairs R (x ∷ xs) → All (R x) xs
  pairs_head x xs h k d l = h 0 (suc k) d (omega arith) (omega arith)

  pub pairs_tail : (x : X) (xs : List X) → AllPairs R (x ∷ xs) → AllPairs R xs
  pairs_tail x xs h i j d order l = h (suc i) (suc j) d (omega arith) (omega arith)

  pub pairs_cons : (x : X) (xs : List X) → All (R x) xs → AllPairs R xs → AllPairs R (x ∷ xs)
  pairs_cons x xs head tail zero zero d order l = absurd (omega arith)
  pairs_cons x xs head tail zero (suc j) d order l = head j d (omega arith)
  pairs_cons x xs head tail (suc i) zero d order l = absurd (omega arith)
  pairs_cons x xs head tail (suc i) (suc j) d order l = tail i j d (omega arith) (omega arith)

-- ---- whether an entry stands

pub same_is : (e f : Entry) → is_same_entry e f ≡ true → f ≡ e
same_is e f is = by (eqb f.cell.0 e.cell.0) refl (eqb f.value.0 e.value.0) refl is
  where
    make : ℕ → ℕ → Entry
    make c v = record { cell = record { 0 = c }; value = record { 0 = v } }

    by : (a : Bool) → eqb f.cell.0 e.cell.0 ≡ a → (b : Bool) → eqb f.value.0 e.value.0 ≡ b → a && b ≡ true → f ≡ e
    by true x true y h =
        let cells : f.cell.0 ≡ e.cell.0 = omega (arith, eqb-true, x) in
        let values : f.value.0 ≡ e.value.0 = omega (arith, eqb-true, y) in
        ap (λ c. make c f.value.0) cells ∙ ap (make e.cell.0) values
    by true x false y h = absurd (false≢true h)
    by false x b y h = absurd (false≢true h)

pub is_same : (e f : Entry) → f ≡ e → is_same_entry e f ≡ true
is_same e f is =
    let cell : Entry → ℕ = λ x. x.cell.0 in
    let value : Entry → ℕ = λ x. x.value.0 in
    ap (λ b. b && eqb f.value.0 e.value.0) (eq-eqb f.cell.0 e.cell.0 (ap cell is)) ∙ eq-eqb f.value.0 e.value.0 (ap value is)

pub standing_found : (e : Entry) (es : List Entry) → Contains es e → list_any (is_same_entry e) es ≡ true
standing_found e [] c = absurd (contains_none e c)
standing_found e (f ∷ es) c = by (is_same_entry e f) refl (λ later. standing_found e es later)
  where
    by : (b : Bool) → is_same_entry e f ≡ b → (Contains es e → list_any (is_same_entry e) es ≡ true) → b || list_any (is_same_entry e) es ≡ true
    by true is rest = refl
    by false is rest = elim (contains_cases f es e c) [
      | inl same ↦ absurd (true≢false (sym (is_same e f same) ∙ is))
      | inr later ↦ rest later
    ]

pub found_standing : (e : Entry) (es : List Entry) → list_any (is_same_entry e) es ≡ true → Contains es e
found_standing e [] h = absurd (false≢true h)
found_standing e (f ∷ es) h = by (is_same_entry e f) refl h (λ later. found_standing e es later)
  where
    by : (b : Bool) → is_same_entry e f ≡ b → b || list_any (is_same_entry e) es ≡ true → (list_any (is_same_entry e) es ≡ true → Contains es e) → Contains (f ∷ es) e
    by true is h rest = subst (Contains (f ∷ es)) (same_is e f is) (contains_first f es)
    by false is h rest = contains_later f es e (rest h)

pub not_found : (e : Entry) (es : List Entry) → list_any (is_same_entry e) es ≡ false → ¬ Contains es e
not_found e es none c = true≢false (sym (standing_found e es c) ∙ none)

-- ---- entries stay well formed

-- what passes another test first is no more
pub length_kept_twice : (p q : Entry → Bool) (xs : List Entry) → length (filter p (filter q xs)) ≤ length (filter p xs)
length_kept_twice p q [] = omega arith
length_kept_twice p q (x ∷ xs) = either_way (q x) (p x) refl (length_kept_twice p q xs)
  where
    either_way : (b t : Bool) → p x ≡ t → length (filter p (filter q xs)) ≤ length (filter p xs) → length (filter p (cond b (x ∷ filter q xs) (filter q xs))) ≤ length (cond t (x ∷ filter p xs) (filter p xs))
    either_way true true is h = subst (λ t. length (cond t (x ∷ filter p (filter q xs)) (filter p (filter q xs))) ≤ length (x ∷ filter p xs)) (sym is) (omega (arith, h))
    either_way true false is h = subst (λ t. length (cond t (x ∷ filter p (filter q xs)) (filter p (filter q xs))) ≤ length (filter p xs)) (sym is) h
    either_way false true is h = omega (arith, h)
    either_way false false is h = h

-- where fewer are left
pub entries_kept : (u : Universe) (p : Entry → Bool) (es : List Entry) → AreWellFormedEntries u es → AreWellFormedEntries u (filter p es)
entries_kept u p es h = record {
  each = All-filter p (IsEntryOf u) es h.each;
  distinct = AllPairs-filter (λ e f. e ≢ f) p es h.distinct;
  few = λ c. let fewer = length_kept_twice (is_of_cell c) p es in let most = h.few c in omega (arith, fewer, most);
}

-- where one is added that doesn't stand, of a cell that may have one more
pub entries_pushed : (u : Universe) (es : List Entry) (e : Entry) → AreWellFormedEntries u es → IsEntryOf u e → ¬ Contains es e → length (entries_of e.cell es) < most_entries → AreWellFormedEntries u (es ++ e ∷ [])
entries_pushed u es e h is new room = record {
  each = All-push (IsEntryOf u) es e h.each is;
  distinct = all_pairs_push (λ x y. x ≢ y) es e h.distinct (all_from (λ x. x ≢ e) es (λ x c same. new (subst (Contains es) same c)));
  few = λ c. few_of c (cases_eq e.cell.0 c.0);
}
  where
    few_of : (c : CellId) → (e.cell.0 ≡ c.0) ⊎ (e.cell.0 ≡ c.0 → ⊥) → length (entries_of c (es ++ e ∷ [])) ≤ most_entries
    few_of c (inl same) =
        let cell : e.cell ≡ c = ap (λ (n : ℕ). let x : CellId = record { 0 = n } in x) same in
        let room_of : length (entries_of c es) < most_entries = subst (λ d. length (entries_of d es) < most_entries) cell room in
        let most : length (entries_of c (e ∷ [])) ≤ 1 = one (is_of_cell c e) in
        let parts = ap length (filter-append (is_of_cell c) es (e ∷ [])) ∙ length-append (entries_of c es) (entries_of c (e ∷ [])) in
        omega (arith, room_of, most, parts)
      where
        one : (b : Bool) → length (cond b (e ∷ []) []) ≤ 1
        one true = omega arith
        one false = omega arith
    few_of c (inr other) =
        let parts = ap length (filter-append (is_of_cell c) es (e ∷ [])) ∙ length-append (entries_of c es) (entries_of c (e ∷ [])) in
        let none : length (entries_of c (e ∷ [])) ≡ 0 = elsewhere (is_of_cell c e) refl in
        let most = h.few c in
        omega (arith, parts, none, most)
      where
        elsewhere : (b : Bool) → eqb e.cell.0 c.0 ≡ b → length (cond b (e ∷ []) []) ≡ 0
        elsewhere true same = absurd (other (omega (arith, eqb-true, same)))
        elsewhere false same = refl

-- ---- entering

same_agrees : (e f : Entry) → is_same_entry e f ≡ true → agrees_with e f ≡ true
same_agrees e f is = by (is_of_cell e.cell f) (eqb f.value.0 e.value.0) is
  where
    by : (a b : Bool) → a && b ≡ true → not (a && not b) ≡ true
    by true true h = refl
    by true false h = h
    by false b h = refl

-- it may be added before the others go
pub entered_after : (es : List Entry) (e : Entry) → filter (agrees_with e) (added_to es e) ≡ entered_to es e
entered_after es e = by (list_any (is_same_entry e) es) refl
  where
    left : List Entry
    left = filter (agrees_with e) es

    by : (b : Bool) → list_any (is_same_entry e) es ≡ b → filter (agrees_with e) (cond b es (es ++ e ∷ [])) ≡ cond (list_any (is_same_entry e) (filter (agrees_with e) es)) (filter (agrees_with e) es) (filter (agrees_with e) es ++ e ∷ [])
    by true stands = sym (ap (λ t. cond t (filter (agrees_with e) es) (filter (agrees_with e) es ++ e ∷ [])) (any-filter_same (is_same_entry e) (agrees_with e) true (same_agrees e) es ∙ stands))
    by false stands =
        filter-append (agrees_with e) es (e ∷ [])
        ∙ ap (λ t. filter (agrees_with e) es ++ cond t (e ∷ []) []) (same_agrees e e (is_same e e refl))
        ∙ sym (ap (λ t. cond t (filter (agrees_with e) es) (filter (agrees_with e) es ++ e ∷ [])) (any-filter_same (is_same_entry e) (agrees_with e) true (same_agrees e) es ∙ stands))

-- where the entry doesn't stand none of its cell agrees with it
none_left : (e : Entry) (es : List Entry) → list_any (is_same_entry e) (filter (agrees_with e) es) ≡ false → entries_of e.cell (filter (agrees_with e) es) ≡ []
none_left e [] h = refl
none_left e (f ∷ es) h = by (is_of_cell e.cell f) refl (eqb f.value.0 e.value.0) refl h (none_left e es)
  where
    left : List Entry
    left = filter (agrees_with e) es

    by : (a : Bool) → is_of_cell e.cell f ≡ a → (b : Bool) → eqb f.value.0 e.value.0 ≡ b → list_any (is_same_entry e) (cond (not (a && not b)) (f ∷ filter (agrees_with e) es) (filter (agrees_with e) es)) ≡ false
        → (list_any (is_same_entry e) (filter (agrees_with e) es) ≡ false → entries_of e.cell (filter (agrees_with e) es) ≡ [])
        → entries_of e.cell (cond (not (a && not b)) (f ∷ filter (agrees_with e) es) (filter (agrees_with e) es)) ≡ []
    by true of_cell true value h rest = absurd (true≢false (sym (ap (λ t. t || list_any (is_same_entry e) (filter (agrees_with e) es)) (ap (λ x. x && eqb f.value.0 e.value.0) of_cell ∙ value)) ∙ h))
    by true of_cell false value h rest = rest h
    by false of_cell b value h rest =
        ap (λ t. cond t (f ∷ entries_of e.cell (filter (agrees_with e) es)) (entries_of e.cell (filter (agrees_with e) es))) of_cell
        ∙ rest (sym (ap (λ t. (t && eqb f.value.0 e.value.0) || list_any (is_same_entry e) (filter (agrees_with e) es)) of_cell) ∙ h)

-- beside those of its cell
pub entries_beside : (u : Universe) (es : List Entry) (e : Entry) → AreWellFormedEntries u es → IsEntryOf u e → Contains es e ⊎ (length (entries_of e.cell es) < most_entries) → AreWellFormedEntries u (added_to es e)
entries_beside u es e h is room = by (list_any (is_same_entry e) es) refl
  where
    by : (b : Bool) → list_any (is_same_entry e) es ≡ b → AreWellFormedEntries u (cond b es (es ++ e ∷ []))
    by true stands = h
    by false stands = elim room [
      | inl there ↦ absurd (not_found e es stands there)
      | inr few ↦ entries_pushed u es e h is (not_found e es stands) few
    ]

pub entries_stay : (u : Universe) (es : List Entry) (e : Entry) → AreWellFormedEntries u es → IsEntryOf u e → AreWellFormedEntries u (entered_to es e)
entries_stay u es e h is = by (list_any (is_same_entry e) left) refl
  where
    left : List Entry
    left = filter (agrees_with e) es

    by : (b : Bool) → list_any (is_same_entry e) (filter (agrees_with e) es) ≡ b → AreWellFormedEntries u (cond b (filter (agrees_with e) es) (filter (agrees_with e) es ++ e ∷ []))
    by true stands = entries_kept u (agrees_with e) es h
    by false stands =
        let none = ap length (none_left e es stands) in
        entries_pushed u (filter (agrees_with e) es) e (entries_kept u (agrees_with e) es h) is (not_found e (filter (agrees_with e) es) stands) (omega (arith, none))
