-- Entries one after another: which are later ones of their cells, and whether some cell has several.
use Rattle.std.proofs.Common.{◌≡◌, ℕ, zero, suc, ◌+◌, ◌<◌, ◌≤◌, ◌⊎◌, inl, inr, Bool, true, false, cond, ◌||◌, eq-eqb, leb, List, [], ◌∷◌, ◌++◌, length, map, take, drop, set, replicate, get_or, slice_get, slice_index_or, Some, All, Contains, arith, refl, ap, sym, subst, ◌∙◌, append_assoc, append-nil, length-set, get_or-set_same, get_or-set_other, filter}
use Rattle.std.specs.List.{list_any}
use Rattle.std.proofs.lemmas.Bool.{cases_eq, cases_lt, eqb-true, leb-true, le-leb, ne_eqb, true≢false, false≢true, or_right}
use Rattle.std.proofs.lemmas.List.{length-append, length-replicate, take-append-drop, take_more, get_or-replicate}
use Rattle.std.proofs.lemmas.List.Elements.{All-get_or, filter-append}
use Rattle.std.proofs.lemmas.List.Folds.{list_any-append, list_any_at, Any-from_list_any}
use Rattle.std.proofs.lemmas.Option.{get_or_from_slice_get}
use Rattle.pc_sheet.specs.Limits.{most_cells}
use Rattle.pc_sheet.specs.Sheet.{Universe}
use Rattle.pc_sheet.specs.WellFormed.{is_of_cell, entries_of, IsEntryOf, IsWellFormedUniverse}
use Rattle.pc_sheet.specs.declared.ids.CellId.{CellId}
use Rattle.pc_sheet.specs.declared.ids.Entry.{Entry}
use Rattle.pc_lemmas.proofs.Elements.{contains_first, contains_later, kept_is}
use Rattle.pc_books.proofs.CountLemmas.{sizes_count}
use Rattle.pc_writer.specs.SheetText.{also_line, each_behind, enter_line, entry_line, entry_lines, has_several, is_later}
use Rattle.pc_writer.proofs.CellLemmas.{entered_cell}

-- ---- cells

same_cell : (c d : CellId) → c.0 ≡ d.0 → c ≡ d
same_cell c d same = ap (λ (n : ℕ). let x : CellId = record { 0 = n } in x) same

pub within_cells : (u : Universe) → IsWellFormedUniverse u → (es : List Entry) → All (IsEntryOf u) es → (i : ℕ) (d : Entry) → i < length es → (slice_index_or es i d).cell.0 < most_cells
within_cells u formed es each i d below =
    let count = sizes_count u u.families in
    let within = entered_cell u (slice_index_or es i d) (All-get_or (IsEntryOf u) es i d below each) in
    omega (arith, count, within, formed.cell_limit)

-- ---- one more entry

with_false : (b : Bool) → (b || false) ≡ b
with_false true = refl
with_false false = refl

module _ (p : Entry → Bool) where
  any_more : (es : List Entry) (e : Entry) (b : Bool) → p e ≡ b → list_any p (es ++ e ∷ []) ≡ (list_any p es || b)
  any_more es e b is = list_any-append p es (e ∷ []) ∙ ap (λ t. list_any p es || (t || false)) is ∙ ap (λ t. list_any p es || t) (with_false b)

  one_passes : (es : List Entry) → list_any p es ≡ true → 1 ≤ length (filter p es)
  one_passes [] some = absurd (false≢true some)
  one_passes (e ∷ es) some = by (p e) some (one_passes es)
    where
      by : (b : Bool) → (b || list_any p es) ≡ true → (list_any p es ≡ true → 1 ≤ length (filter p es)) → 1 ≤ length (cond b (e ∷ filter p es) (filter p es))
      by true h rest = omega arith
      by false h rest = rest h

  none_passes : (es : List Entry) → list_any p es ≡ false → length (filter p es) ≡ 0
  none_passes [] none = refl
  none_passes (e ∷ es) none = by (p e) none (none_passes es)
    where
      by : (b : Bool) → (b || list_any p es) ≡ false → (list_any p es ≡ false → length (filter p es) ≡ 0) → length (cond b (e ∷ filter p es) (filter p es)) ≡ 0
      by true h rest = absurd (true≢false h)
      by false h rest = rest h

  passing_more : (es : List Entry) (e : Entry) (b : Bool) → p e ≡ b → length (filter p (es ++ e ∷ [])) ≡ length (filter p es) + cond b 1 0
  passing_more es e b is =
      ap length (filter-append p es (e ∷ [])) ∙ length-append (filter p es) (cond (p e) (e ∷ []) []) ∙ ap (λ n. length (filter p es) + n) (one b is)
    where
      one : (b : Bool) → p e ≡ b → length (cond (p e) (e ∷ []) []) ≡ cond b 1 0
      one true is = ap (λ t. length (cond t (e ∷ []) [])) is
      one false is = ap (λ t. length (cond t (e ∷ []) [])) is

  passing_front : (es : List Entry) (n : ℕ) → length (filter p (take n es)) ≤ length (filter p es)
  passing_front es n =
      let parts = ap (λ xs. length (filter p xs)) (sym (take-append-drop n es)) ∙ ap length (filter-append p (take n es) (drop n es)) ∙ length-append (filter p (take n es)) (filter p (drop n es)) in
      omega (arith, parts)

-- ---- cells of several entries

pub several_of : (es : List Entry) (c : CellId) → 2 ≤ length (entries_of c es) → has_several es ≡ true
several_of es c many =
    let found = first_of_them (entries_of c es) many in
    let there = kept_is (is_of_cell c) es found.0 found.1 in
    let cell : c ≡ found.0.cell = sym (same_cell found.0.cell c (eqb-true found.0.cell.0 c.0 there.1)) in
    let tells : (Entry → Bool) = λ e. leb 2 (length (entries_of e.cell es)) in
    let passes : tells found.0 ≡ true = le-leb 2 (length (entries_of found.0.cell es)) (subst (λ d. 2 ≤ length (entries_of d es)) cell many) in
    list_any_at tells es there.0.0 found.0 there.0.1 (ap tells there.0.2 ∙ passes)
  where
    first_of_them : (fs : List Entry) → 2 ≤ length fs → (f : Entry) × Contains fs f
    first_of_them [] many = absurd (omega (arith, many))
    first_of_them (f ∷ fs) many = (f, contains_first f fs)

pub of_several : (es : List Entry) → has_several es ≡ true → (c : CellId) × (2 ≤ length (entries_of c es))
of_several es h =
    let tells : (Entry → Bool) = λ e. leb 2 (length (entries_of e.cell es)) in
    let found = Any-from_list_any tells es h in
    (found.1.cell, leb-true 2 (length (entries_of found.1.cell es)) found.4)

pub several_none : (es : List Entry) → ((c : CellId) → length (entries_of c es) ≤ 1) → has_several es ≡ false
several_none es single = by (has_several es) refl
  where
    by : (b : Bool) → has_several es ≡ b → b ≡ false
    by true is = let found = of_several es is in let most = single found.0 in absurd (omega (arith, found.1, most))
    by false is = refl

pub none_several : (es : List Entry) → has_several es ≡ false → (c : CellId) → length (entries_of c es) ≤ 1
none_several es none c = elim (cases_lt 1 (length (entries_of c es))) [
  | inl many ↦ absurd (true≢false (sym (several_of es c many) ∙ none))
  | inr most ↦ most
]

-- ---- later entries

pub single_more : (es : List Entry) (e : Entry) → is_later es e ≡ false → ((c : CellId) → length (entries_of c es) ≤ 1) → (c : CellId) → length (entries_of c (es ++ e ∷ [])) ≤ 1
single_more es e first single c = by (is_of_cell c e) refl
  where
    by : (b : Bool) → is_of_cell c e ≡ b → length (entries_of c (es ++ e ∷ [])) ≤ 1
    by true is =
        let cell = same_cell e.cell c (eqb-true e.cell.0 c.0 is) in
        let none = none_passes (is_of_cell c) es (subst (λ d. list_any (is_of_cell d) es ≡ false) cell first) in
        let more = passing_more (is_of_cell c) es e true is in
        omega (arith, none, more)
    by false is =
        let most = single c in
        let more = passing_more (is_of_cell c) es e false is in
        omega (arith, most, more)

pub later_several : (es : List Entry) (i : ℕ) (d : Entry) → i < length es → is_later (take i es) (get_or es i d) ≡ true → has_several es ≡ true
later_several es i d below later =
    let e = get_or es i d in
    let some = one_passes (is_of_cell e.cell) (take i es) later in
    let more = passing_more (is_of_cell e.cell) (take i es) e true (eq-eqb e.cell.0 e.cell.0 refl) in
    let same = ap (λ xs. length (entries_of e.cell xs)) (take_more es i d below) in
    let front = passing_front (is_of_cell e.cell) es (i + 1) in
    several_of es e.cell (omega (arith, some, more, same, front))

pub later_behind : (older : List Entry) (e : Entry) (after : List Entry) → is_later older e ≡ true → has_several (older ++ e ∷ after) ≡ true
later_behind older e after later =
    let some = one_passes (is_of_cell e.cell) older later in
    let more = passing_more (is_of_cell e.cell) older e true (eq-eqb e.cell.0 e.cell.0 refl) in
    let parts = ap (entries_of e.cell) (sym (append_assoc older (e ∷ []) after)) ∙ filter-append (is_of_cell e.cell) (older ++ e ∷ []) after in
    let count = ap length parts ∙ length-append (entries_of e.cell (older ++ e ∷ [])) (entries_of e.cell after) in
    several_of (older ++ e ∷ after) e.cell (omega (arith, some, more, count))

-- ---- the lines of entries

module _ {A B : Type 0} (f : List A → A → B) where
  pub each_behind-at : (before xs : List A) (i : ℕ) (d : A) → i < length xs → slice_get (each_behind f before xs) i ≡ Some (f (before ++ take i xs) (slice_index_or xs i d))
  each_behind-at before [] i d below = absurd (omega (arith, below))
  each_behind-at before (x ∷ xs) zero d below = ap (λ b. Some (f b x)) (sym (append-nil before))
  each_behind-at before (x ∷ xs) (suc i) d below =
      each_behind-at (before ++ x ∷ []) xs i d (omega (arith, below)) ∙ ap (λ b. Some (f b (slice_index_or xs i d))) (append_assoc before (x ∷ []) (take i xs))

  pub length-each_behind : (before xs : List A) → length (each_behind f before xs) ≡ length xs
  length-each_behind before [] = refl
  length-each_behind before (x ∷ xs) = ap suc (length-each_behind (before ++ x ∷ []) xs)

-- some line is one of a later entry, or all are of first ones
first_or_later : (u : Universe) (older es : List Entry) → ((c : CellId) → length (entries_of c older) ≤ 1)
    → ((e : Entry) × Contains (each_behind (entry_line u) older es) (also_line u e)) ⊎ (((c : CellId) → length (entries_of c (older ++ es)) ≤ 1) × (each_behind (entry_line u) older es ≡ map (enter_line u) es))
first_or_later u older [] single = inr (λ c. subst (λ es. length (entries_of c es) ≤ 1) (sym (append-nil older)) (single c), refl)
first_or_later u older (e ∷ es) single = by (is_later older e) refl (λ first. first_or_later u (older ++ e ∷ []) es (single_more older e first single))
  where
    by : (b : Bool) → is_later older e ≡ b
        → (b ≡ false → ((f : Entry) × Contains (each_behind (entry_line u) (older ++ e ∷ []) es) (also_line u f)) ⊎ (((c : CellId) → length (entries_of c ((older ++ e ∷ []) ++ es)) ≤ 1) × (each_behind (entry_line u) (older ++ e ∷ []) es ≡ map (enter_line u) es)))
        → ((f : Entry) × Contains (cond b (also_line u e) (enter_line u e) ∷ each_behind (entry_line u) (older ++ e ∷ []) es) (also_line u f)) ⊎ (((c : CellId) → length (entries_of c (older ++ e ∷ es)) ≤ 1) × (cond b (also_line u e) (enter_line u e) ∷ each_behind (entry_line u) (older ++ e ∷ []) es ≡ enter_line u e ∷ map (enter_line u) es))
    by true is rest = inl (e, contains_first (also_line u e) (each_behind (entry_line u) (older ++ e ∷ []) es))
    by false is rest = elim (rest refl) [
      | inl there ↦ inl (there.0, contains_later (enter_line u e) (each_behind (entry_line u) (older ++ e ∷ []) es) (also_line u there.0) there.1)
      | inr both ↦ inr (λ c. subst (λ all. length (entries_of c all) ≤ 1) (append_assoc older (e ∷ []) es) (both.0 c), ap (λ ls. enter_line u e ∷ ls) both.1)
    ]

-- a line of a later entry is one of a cell that has several
pub also_several : (u : Universe) (es : List Entry) (e : Entry) → Contains (entry_lines u es) (also_line u e) → has_several es ≡ true
also_several u es e there =
    let i = there.0 in
    let below : i < length es = omega (arith, there.1, length-each_behind (entry_line u) [] es) in
    let at = each_behind-at (entry_line u) [] es i e below in
    let is = sym (get_or_from_slice_get (entry_lines u es) i (entry_line u (take i es) (slice_index_or es i e)) (also_line u e) at) ∙ there.2 in
    by (slice_index_or es i e) (is_later (take i es) (slice_index_or es i e)) (λ later. later_several es i e below later) is
  where
    other : (f : Entry) → enter_line u f ≡ also_line u e → ⊥
    other f same = absurd (cc)

    by : (f : Entry) (b : Bool) → (b ≡ true → has_several es ≡ true) → cond b (also_line u f) (enter_line u f) ≡ also_line u e → has_several es ≡ true
    by f true several same = several refl
    by f false several same = absurd (other f same)

-- whether some cell has several shows in the lines

either_lines : (u : Universe) (es : List Entry) → ((e : Entry) × Contains (entry_lines u es) (also_line u e)) ⊎ (((c : CellId) → length (entries_of c es) ≤ 1) × (entry_lines u es ≡ map (enter_line u) es))
either_lines u es = first_or_later u [] es (λ c. omega arith)

pub several_also : (u : Universe) (es : List Entry) → has_several es ≡ true → (e : Entry) × Contains (entry_lines u es) (also_line u e)
several_also u es several = elim (either_lines u es) [
  | inl there ↦ there
  | inr both ↦ absurd (true≢false (sym several ∙ several_none es both.0))
]

pub single_first : (u : Universe) (es : List Entry) → has_several es ≡ false → entry_lines u es ≡ map (enter_line u) es
single_first u es single = elim (either_lines u es) [
  | inl there ↦ absurd (true≢false (sym (also_several u es there.0 there.1) ∙ single))
  | inr both ↦ both.1
]

-- ---- cells that are noted

-- a cell is noted exactly where an entry is of it
pub record AreNoted (noted : List Bool) (es : List Entry) : Type 0 where
  pub places : length noted ≡ most_cells
  pub each : (c : CellId) → c.0 < most_cells → slice_index_or noted c.0 false ≡ list_any (is_of_cell c) es

pub none_noted : AreNoted (replicate most_cells false) []
none_noted = record { places = length-replicate most_cells false; each = λ c below. get_or-replicate most_cells c.0 false false below }

pub one_noted : (noted : List Bool) (es : List Entry) (e : Entry) → e.cell.0 < most_cells → AreNoted noted es → AreNoted (set noted e.cell.0 true) (es ++ e ∷ [])
one_noted noted es e within h = record {
  places = length-set noted e.cell.0 true ∙ h.places;
  each = λ c below. of_cell c below (cases_eq e.cell.0 c.0);
}
  where
    of_cell : (c : CellId) → c.0 < most_cells → (e.cell.0 ≡ c.0) ⊎ (e.cell.0 ≡ c.0 → ⊥) → slice_index_or (set noted e.cell.0 true) c.0 false ≡ list_any (is_of_cell c) (es ++ e ∷ [])
    of_cell c below (inl same) =
        let inside : e.cell.0 < length noted = omega (arith, within, h.places) in
        let more = any_more (is_of_cell c) es e true (eq-eqb e.cell.0 c.0 same) in
        ap (λ k. get_or (set noted e.cell.0 true) k false) (sym same) ∙ get_or-set_same noted e.cell.0 true false inside ∙ sym (more ∙ or_right (list_any (is_of_cell c) es) true refl)
    of_cell c below (inr other) =
        let more = any_more (is_of_cell c) es e false (ne_eqb e.cell.0 c.0 other) in
        get_or-set_other noted e.cell.0 c.0 true false (λ same. other (sym same)) ∙ h.each c below ∙ sym (more ∙ with_false (list_any (is_of_cell c) es))

-- at a place of the list
module _ (es : List Entry) (i : ℕ) (d : Entry) (below : i < length es) (noted : List Bool) (are : AreNoted noted (take i es)) (within : (slice_index_or es i d).cell.0 < most_cells) where
  -- whether it is a later one
  pub told_later : (before : Bool) → before ≡ slice_index_or noted (slice_index_or es i d).cell.0 false → before ≡ is_later (take i es) (slice_index_or es i d)
  told_later before is = is ∙ are.each (slice_index_or es i d).cell within

  pub noted_more : AreNoted (set noted (slice_index_or es i d).cell.0 true) (take (i + 1) es)
  noted_more = subst (AreNoted (set noted (slice_index_or es i d).cell.0 true)) (sym (take_more es i d below)) (one_noted noted (take i es) (slice_index_or es i d) within are)

  -- where it is the first of its cell
  pub single_still : (before : Bool) → before ≡ slice_index_or noted (slice_index_or es i d).cell.0 false → before ≡ false
      → ((c : CellId) → length (entries_of c (take i es)) ≤ 1) → (c : CellId) → length (entries_of c (take (i + 1) es)) ≤ 1
  single_still before is first single c =
      subst (λ all. length (entries_of c all) ≤ 1) (sym (take_more es i d below)) (single_more (take i es) (slice_index_or es i d) (sym (told_later before is) ∙ first) single c)

  -- where it is a later one
  pub several_told : (before : Bool) → before ≡ slice_index_or noted (slice_index_or es i d).cell.0 false → before ≡ true → has_several es ≡ true
  several_told before is later = later_several es i d below (sym (told_later before is) ∙ later)

  -- its line
  pub line_told : (u : Universe) (before : Bool) → before ≡ slice_index_or noted (slice_index_or es i d).cell.0 false
      → slice_get (entry_lines u es) i ≡ Some (cond before (also_line u (slice_index_or es i d)) (enter_line u (slice_index_or es i d)))
  line_told u before is =
      each_behind-at (entry_line u) [] es i d below ∙ ap (λ later. Some (cond later (also_line u (slice_index_or es i d)) (enter_line u (slice_index_or es i d)))) (sym (told_later before is))
