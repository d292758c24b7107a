-- Entries that an edit takes away, and what is left.
use Rattle.std.proofs.Common.{◌≡◌, ◌≢◌, ◌↔◌, ℕ, ◌<◌, inl, inr, Bool, true, false, cond, not, eqb, eq-eqb, ◌&&◌, ◌||◌, List, [], ◌∷◌, ◌++◌, filter, length, All, Contains, arith, ap, refl, sym, ◌∙◌, subst}
use Rattle.std.specs.List.{list_any}
use Rattle.std.proofs.lemmas.Bool.{cases_Bool, eqb-true, false≢true}
use Rattle.std.proofs.lemmas.List.{append-nil}
use Rattle.std.proofs.lemmas.List.Elements.{Contains-push}
use Rattle.std.proofs.lemmas.List.Folds.{list_any_at, list_any_none}
use Rattle.std.proofs.lemmas.List.Kept.{AllPairs-filter}
use Rattle.pc_sheet.specs.Sheet.{Sheet, with_newest}
use Rattle.pc_sheet.specs.WellFormed.{AreDifferent, AreWellFormedEntries, IsWellFormed, is_of_cell, entries_of}
use Rattle.pc_sheet.specs.declared.ids.CellId.{CellId}
use Rattle.pc_sheet.specs.declared.ids.Entry.{Entry}
use Rattle.pc_books.specs.Edits.{also_entered, is_same_entry, is_rival, without_entry, without_one}
use Rattle.pc_books.proofs.EntryLemmas.{entries_kept, is_same, pairs_head, pairs_tail, same_is}
use Rattle.pc_parts.specs.Parts.{Part}
use Rattle.pc_parts.specs.PartSheets.{is_on, sheet_of}
use Rattle.pc_justify_laws.specs.Edits.{HasNone, edited, takes_none}
use Rattle.pc_world_list.specs.Worlds.{AllFit, AreExact, WorldView}
use Rattle.pc_search.specs.Parts.{AreWorldsOf}
use Rattle.pc_session.specs.Answers.{StandsAlone}
use Rattle.pc_lemmas.proofs.Elements.{all_from, contains_cases, contains_first, contains_later, contains_none, kept, kept_all, kept_is}
use Rattle.pc_theory.proofs.Lists.{all_in, few_filtered}

-- ---- whether some are taken away

module _ (gone : Entry → Bool) where
  pub some_of : (es : List Entry) (x : Entry) → Contains es x → gone x ≡ true → list_any gone es ≡ true
  some_of es x has is = list_any_at gone es has.0 x has.1 (ap gone has.2 ∙ is)

  pub none_of : (es : List Entry) → list_any gone es ≡ false → HasNone gone es
  none_of es none = all_from (λ e. gone e ≡ false) es (λ x has. elim (cases_Bool (gone x)) [ inl is ↦ absurd (false≢true (sym none ∙ some_of es x has is)) | inr stays ↦ stays ])

  pub some_not_none : (es : List Entry) → list_any gone es ≡ true → ¬ HasNone gone es
  some_not_none es is none = false≢true (sym (list_any_none gone es none) ∙ is)

  pub has_not_none : (es : List Entry) (x : Entry) → Contains es x → gone x ≡ true → ¬ HasNone gone es
  has_not_none es x has is none = false≢true (sym (all_in (λ e. gone e ≡ false) es x none has) ∙ is)

  pub found_some : (es : List Entry) → list_any gone es ≡ true → (e : Entry) × Contains es e × (gone e ≡ true)
  found_some [] is = absurd (false≢true is)
  found_some (e ∷ es) is = by (gone e) refl is (found_some es)
    where
      by : (b : Bool) → gone e ≡ b → b || list_any gone es ≡ true → (list_any gone es ≡ true → (f : Entry) × Contains es f × (gone f ≡ true)) → (f : Entry) × Contains (e ∷ es) f × (gone f ≡ true)
      by true goes h rest = (e, contains_first e es, goes)
      by false stays h rest = let r = rest h in (r.0, contains_later e es r.0 r.1, r.2)

  -- ---- what is left

  abbrev stays : Entry → Bool
  stays e = not (gone e)

  abbrev left : List Entry → List Entry
  left es = filter stays es

  -- it doesn't matter whether one of those that go has gone before
  left_same : (e : Entry) → gone e ≡ true → (es : List Entry) → left (without_one e es) ≡ left es
  left_same e is [] = refl
  left_same e is (f ∷ fs) = by (is_same_entry e f) refl (gone f) refl (left_same e is fs)
    where
      by : (same : Bool) → is_same_entry e f ≡ same → (goes : Bool) → gone f ≡ goes → left (without_one e fs) ≡ left fs → left (cond (not same) (f ∷ without_one e fs) (without_one e fs)) ≡ cond (not goes) (f ∷ left fs) (left fs)
      by true same true goes rest = rest
      by true same false goes rest = absurd (false≢true (sym goes ∙ (ap gone (same_is e f same) ∙ is)))
      by false same true goes rest = ap (λ b. cond (not b) (f ∷ left (without_one e fs)) (left (without_one e fs))) goes ∙ rest
      by false same false goes rest = ap (λ b. cond (not b) (f ∷ left (without_one e fs)) (left (without_one e fs))) goes ∙ ap (λ xs. f ∷ xs) rest

  pub edited_same : (sheet : Sheet) (e : Entry) → gone e ≡ true → edited (without_entry sheet e) gone [] ≡ edited sheet gone []
  edited_same sheet e is = let with_entries : List Entry → Sheet = λ es. record sheet { entries = es ++ [] } in ap with_entries (left_same e is sheet.entries)

  -- where none goes all is left
  pub edited_none : (sheet : Sheet) → HasNone gone sheet.entries → edited sheet gone [] ≡ sheet
  edited_none sheet none =
      let with_entries : List Entry → Sheet = λ es. record sheet { entries = es } in
      ap with_entries (append-nil (left sheet.entries) ∙ kept_all stays sheet.entries (λ f has. ap not (all_in (λ e. gone e ≡ false) sheet.entries f none has)))

  pub formed_left : (sheet : Sheet) → IsWellFormed sheet → IsWellFormed (edited sheet gone [])
  formed_left sheet formed = record {
    universe = formed.universe;
    rules = formed.rules;
    entries = subst (AreWellFormedEntries sheet.universe) (sym (append-nil (left sheet.entries))) (entries_kept sheet.universe stays sheet.entries formed.entries);
  }

-- where nothing is taken away and one is added, that one is the newest
pub beside : (sheet : Sheet) (e : Entry) → with_newest sheet e ≡ edited sheet takes_none (e ∷ [])
beside sheet e =
    let with_entries : List Entry → Sheet = λ es. record sheet { entries = es ++ e ∷ [] } in
    ap with_entries (sym (kept_all (λ f. not (takes_none f)) sheet.entries (λ f has. refl)))

-- one that doesn't stand isn't
pub none_standing : (e : Entry) (es : List Entry) → ¬ Contains es e → HasNone (is_same_entry e) es
none_standing e es lacks = all_from (λ f. is_same_entry e f ≡ false) es (λ f has. elim (cases_Bool (is_same_entry e f)) [ inl same ↦ absurd (lacks (subst (Contains es) (same_is e f same) has)) | inr other ↦ other ])

-- one that is added to what is left is the newest, where the entries are different then
lacks_last : (es : List Entry) (e : Entry) → AreDifferent (es ++ e ∷ []) → ¬ Contains es e
lacks_last [] e different has = contains_none e has
lacks_last (f ∷ fs) e different has = elim (contains_cases f fs e has) [
  | inl is ↦ all_in (λ x. f ≢ x) (fs ++ e ∷ []) e (pairs_head (λ x y. x ≢ y) f (fs ++ e ∷ []) different) (Contains-push fs e) is
  | inr later ↦ lacks_last fs e (pairs_tail (λ x y. x ≢ y) f (fs ++ e ∷ []) different) later
]

pub added_last : (sheet : Sheet) (gone : Entry → Bool) (e : Entry) → AreDifferent (edited sheet gone (e ∷ [])).entries → also_entered (edited sheet gone []) e ≡ edited sheet gone (e ∷ [])
added_last sheet gone e different =
    let rest : List Entry = filter (λ f. not (gone f)) sheet.entries in
    let none : list_any (is_same_entry e) (rest ++ []) ≡ false = ap (list_any (is_same_entry e)) (append-nil rest) ∙ list_any_none (is_same_entry e) rest (none_standing e rest (lacks_last rest e different)) in
    let with_entries : List Entry → Sheet = λ es. record sheet { entries = es } in
    ap with_entries (ap (λ b. cond b (rest ++ []) ((rest ++ []) ++ e ∷ [])) none ∙ ap (λ es. es ++ e ∷ []) (append-nil rest))

-- an entry of the cell is taken away with the cell's
pub of_that_cell : (c : CellId) (e : Entry) → e.cell ≡ c → is_of_cell c e ≡ true
of_that_cell c e of_cell = eq-eqb e.cell.0 c.0 (let number : CellId → ℕ = λ d. d.0 in ap number of_cell)

-- there are fewer without one that stands
pub fewer : (e : Entry) (es : List Entry) → Contains es e → length (without_one e es) < length es
fewer e [] has = absurd (contains_none e has)
fewer e (f ∷ fs) has = by (is_same_entry e f) refl (λ later. fewer e fs later)
  where
    by : (same : Bool) → is_same_entry e f ≡ same → (Contains fs e → length (without_one e fs) < length fs) → length (cond (not same) (f ∷ without_one e fs) (without_one e fs)) < length (f ∷ fs)
    by true same rest = let few = few_filtered (λ x. not (is_same_entry e x)) fs in omega (arith, few)
    by false same rest = elim (contains_cases f fs e has) [
      | inl is ↦ absurd (false≢true (sym same ∙ is_same e f is))
      | inr later ↦ let less = rest later in omega (arith, less)
    ]

-- ... and so in a book from which it was taken away
pub fewer_left : (old new : Sheet) (e : Entry) → Contains old.entries e → new ≡ without_entry old e → length new.entries < length old.entries
fewer_left old new e has is = subst (λ (s : Sheet). length s.entries < length old.entries) (sym is) (fewer e old.entries has)

-- ---- a part's worlds without one

swap : (p q : Entry → Bool) (es : List Entry) → filter p (filter q es) ≡ filter q (filter p es)
swap p q [] = refl
swap p q (x ∷ xs) = by (p x) refl (q x) refl (swap p q xs)
  where
    by : (a : Bool) → p x ≡ a → (b : Bool) → q x ≡ b → filter p (filter q xs) ≡ filter q (filter p xs) → filter p (cond b (x ∷ filter q xs) (filter q xs)) ≡ filter q (cond a (x ∷ filter p xs) (filter p xs))
    by true is_p true is_q rest = ap (λ t. cond t (x ∷ filter p (filter q xs)) (filter p (filter q xs))) is_p ∙ (ap (λ r. x ∷ r) rest ∙ sym (ap (λ t. cond t (x ∷ filter q (filter p xs)) (filter q (filter p xs))) is_q))
    by true is_p false is_q rest = rest ∙ sym (ap (λ t. cond t (x ∷ filter q (filter p xs)) (filter q (filter p xs))) is_q)
    by false is_p true is_q rest = ap (λ t. cond t (x ∷ filter p (filter q xs)) (filter p (filter q xs))) is_p ∙ rest
    by false is_p false is_q rest = rest

pub worlds_without : (sheet : Sheet) (e : Entry) (p : Part) (ws left : List WorldView) → AreDifferent sheet.entries → ((other : Sheet) → AreDifferent other.entries → AreExact other ws → AreExact (without_entry other e) left)
    → ((other : Sheet) → AllFit other ws → AllFit other left) → AreWorldsOf sheet p ws → AreWorldsOf (without_entry sheet e) p left
worlds_without sheet e p ws left distinct exact fits h =
    let own = sheet_of sheet p in
    let own_distinct = AllPairs-filter (λ f g. f ≢ g) (is_on p.cells) sheet.entries distinct in
    let P : List Entry → Type 0 = λ es. AreExact (record own { entries = es }) left in
    record { exact = subst P (swap (λ f. not (is_same_entry e f)) (is_on p.cells) sheet.entries) (exact own own_distinct h.exact); fit = fits sheet h.fit }

-- ... and so in a book from which it was taken away
pub worlds_left : (old new : Sheet) (e : Entry) (p : Part) (ws left : List WorldView) → IsWellFormed old → new ≡ without_entry old e → ((other : Sheet) → AreDifferent other.entries → AreExact other ws → AreExact (without_entry other e) left)
    → ((other : Sheet) → AllFit other ws → AllFit other left) → AreWorldsOf old p ws → AreWorldsOf new p left
worlds_left old new e p ws left formed is exact fits h = subst (λ (s : Sheet). AreWorldsOf s p left) (sym is) (worlds_without old e p ws left formed.entries.distinct exact fits h)

-- ---- whether an entry stands alone

pub alone_none : (e : Entry) (es : List Entry) → All (λ f. f ≡ e) (entries_of e.cell es) → list_any (is_rival e) es ≡ false
alone_none e es alone = list_any_none (is_rival e) es (all_from (λ f. is_rival e f ≡ false) es (λ f has. elim (cases_Bool (is_of_cell e.cell f)) [
  | inl of_cell ↦
      let is : f ≡ e = all_in (λ x. x ≡ e) (entries_of e.cell es) f alone (kept (is_of_cell e.cell) es f has of_cell) in
      ap (λ b. is_of_cell e.cell f && not b) (eq-eqb f.value.0 e.value.0 (let value : Entry → ℕ = λ x. x.value.0 in ap value is)) ∙ either (is_of_cell e.cell f)
  | inr other ↦ ap (λ a. a && not (eqb f.value.0 e.value.0)) other
]))
  where
    either : (a : Bool) → a && not true ≡ false
    either true = refl
    either false = refl

same_value : (e f : Entry) → is_of_cell e.cell f ≡ true → is_rival e f ≡ false → f ≡ e
same_value e f of_cell none = by (eqb f.value.0 e.value.0) refl
  where
    make : ℕ → ℕ → Entry
    make c v = record { cell = record { 0 = c }; value = record { 0 = v } }

    by : (b : Bool) → eqb f.value.0 e.value.0 ≡ b → f ≡ e
    by true same =
        let cells : f.cell.0 ≡ e.cell.0 = omega (arith, eqb-true, of_cell) in
        let values : f.value.0 ≡ e.value.0 = omega (arith, eqb-true, same) in
        ap (λ c. make c f.value.0) cells ∙ ap (make e.cell.0) values
    by false other = absurd (false≢true (sym none ∙ (ap (λ a. a && not (eqb f.value.0 e.value.0)) of_cell ∙ ap (λ b. true && not b) other)))

pub none_alone : (e : Entry) (es : List Entry) → list_any (is_rival e) es ≡ false → All (λ f. f ≡ e) (entries_of e.cell es)
none_alone e es none = all_from (λ f. f ≡ e) (entries_of e.cell es) (λ f has.
    let from = kept_is (is_of_cell e.cell) es f has in
    same_value e f from.1 (all_in (λ x. is_rival e x ≡ false) es f (none_of (is_rival e) es none) from.0))

-- ---- what tests tell of a cell's entries, where these are read anew for each

-- the entry doesn't stand
pub lacks_by : (stands : Bool) (e : Entry) (es read : List Entry) → stands ≡ false → (stands ≡ true) ↔ Contains read e → read ≡ es → ¬ Contains es e
lacks_by stands e es read fails says is has = false≢true (sym fails ∙ says.1 (subst (λ (xs : List Entry). Contains xs e) (sym is) has))

-- it stands, and none is its rival
pub alone_by : (stands some : Bool) (e : Entry) (es read again : List Entry) → stands ≡ true → (stands ≡ true) ↔ Contains read e → read ≡ es → some ≡ false → some ≡ list_any (is_rival e) again → again ≡ es → StandsAlone es e
alone_by stands some e es read again passes says is fails rivals same = (
  subst (λ (xs : List Entry). Contains xs e) is (says.0 passes),
  none_alone e es (subst (λ (xs : List Entry). list_any (is_rival e) xs ≡ false) same (sym rivals ∙ fails)),
)
