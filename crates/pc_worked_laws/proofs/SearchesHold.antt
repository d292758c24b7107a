-- Which commands need a search.
use Rattle.std.proofs.Common.{◌≡◌, ℕ, zero, suc, ◌<◌, ◌+◌, List, [], ◌∷◌, length, Option, None, Some, Contains, arith, ap, eq-eqb, refl, sym, ◌∙◌, subst, codes}
use Rattle.std.proofs.lemmas.List.{length-append}
use Rattle.std.proofs.lemmas.List.Edits.{length-remove}
use Rattle.pc_sheet.specs.Sheet.{Sheet, Universe}
use Rattle.pc_sheet.specs.Sizes.{cell_number}
use Rattle.pc_sheet.specs.WellFormed.{is_of_cell, entries_of}
use Rattle.pc_sheet.specs.declared.ids.CellId.{CellId}
use Rattle.pc_sheet.specs.declared.ids.FamilyId.{FamilyId}
use Rattle.pc_sheet.specs.declared.ids.SortId.{SortId}
use Rattle.pc_sheet.specs.declared.ids.ValueId.{ValueId}
use Rattle.pc_sheet.specs.declared.ids.Entry.{Entry}
use Rattle.pc_laws.specs.Examples.{red, green, entry}
use Rattle.pc_books.specs.Edits.{is_same_entry}
use Rattle.pc_lemmas.proofs.Elements.{contains_none, kept}
use Rattle.pc_elaborate.specs.Elaboration.{IsFamilyNamed, GivesValuesOf, AreValuesOf, StandsForValue, IsCell, IsCellNamed, IsEntryNamed}
use Rattle.pc_session.specs.Answers.{AreSpare, StandsAlone}
use Rattle.pc_syntax.specs.Tree.{asks_enter, asks_also, Cell}
use Rattle.pc_spreadsheet.specs.Allowed.{NeedsSearch, to_enter, to_enter_beside, to_clear, to_remove, to_add, to_drop}
use Rattle.pc_worked_laws.specs.Several.{cell_of, views, with_views}
use Rattle.pc_worked_laws.specs.Searches.{SearchesChange, ClearingSpareIsNoSearch, RemovingSpareIsNoSearch, EnteringNeedsOne, a_cell, b_cell, c_cell, red_value, green_value, WorkedSearches}
use Rattle.pc_worked_laws.proofs.Computing.{has, lacks}
use Rattle.pc_worked_laws.proofs.SpareHolds.{entering, adding, removing, clearing, worked_places, worked_spare}

-- ---- of any sheet

rules_in : Sheet → ℕ
rules_in sheet = length sheet.rules

place_of : CellId → ℕ
place_of c = c.0

pub changes : SearchesChange
unfolding rules_in place_of
changes sheet a cell made (to_enter e named more) same = more ((entering sheet e).1 same)
changes sheet a cell made (to_enter_beside e named room) same = room.new ((adding sheet e).1 same)
changes sheet a cell made (to_clear k named some needed) same =
    let none : entries_of k sheet.entries ≡ [] = (clearing sheet k).1 same in
    let there : Contains (entries_of k sheet.entries) some.1 = kept (is_of_cell k) sheet.entries some.1 (some.0, some.2, some.3) (eq-eqb some.1.cell.0 k.0 (ap place_of some.4)) in
    contains_none some.1 (subst (λ es. Contains es some.1) none there)
changes sheet a cell made (to_remove e named stands needed) same = (removing sheet e).1 same stands
changes sheet a cell made (to_add r new light) same = let longer = length-append sheet.rules (r ∷ []) in let equal = ap rules_in same in absurd (omega (arith, longer, equal))
changes sheet a cell made (to_drop place at) same = let shorter = length-remove sheet.rules place at.0 in let equal = ap rules_in same in absurd (omega (arith, shorter, equal))

pub clearing_spare : ClearingSpareIsNoSearch
clearing_spare sheet c cell made spare (to_clear k named some needed) = needed (spare k named)

pub removing_spare : RemovingSpareIsNoSearch
removing_spare sheet c v cell made spare (to_remove e named stands needed) = needed (spare e named)

pub entering_needs : EnteringNeedsOne
entering_needs sheet c v e named other = to_enter e named (λ alone. other ((entering sheet e).0 alone))

-- ---- names

abbrev here : Universe
here = with_views.universe

abbrev family : ℕ → FamilyId
family n = record { 0 = n }

abbrev color : SortId
color = record { 0 = 0 }

abbrev written : List ℕ → Cell
written name = record { name = name; args = [] }

cell_a : IsCell here a_cell (cell_of 0) color
cell_a = record { family = family 0; sorts = []; arguments = []; named = refl; takes = refl; given = tt; number = refl; gives = refl }

cell_b : IsCell here b_cell (cell_of 1) color
cell_b = record { family = family 1; sorts = []; arguments = []; named = refl; takes = refl; given = tt; number = refl; gives = refl }

a_red : IsEntryNamed here a_cell red_value (entry 0 red)
a_red = record { sort = color; cell = cell_a; value = refl }

a_green : IsEntryNamed here a_cell green_value (entry 0 green)
a_green = record { sort = color; cell = cell_a; value = refl }

b_red : IsEntryNamed here b_cell red_value (entry 1 red)
b_red = record { sort = color; cell = cell_b; value = refl }

-- ---- no name stands for two

abbrev first_letter : List ℕ → ℕ
first_letter [] = 0
first_letter (x ∷ xs) = x

abbrev letter_of : Option (List ℕ) → ℕ
letter_of None = 0
letter_of (Some name) = first_letter name

number_from : (n : ℕ) (ss : List SortId) (vs : List ValueId) (s : SortId) (name : List ℕ) → IsFamilyNamed here name (family n) → AreValuesOf here ss [] vs → GivesValuesOf here (family n) s
    → (97 + n ≡ first_letter name) × (cell_number here (family n) vs ≡ n) × (color ≡ s)
number_from zero [] [] s name named given gives = (ap first_letter named, refl, gives)
number_from (suc zero) [] [] s name named given gives = (ap first_letter named, refl, gives)
number_from (suc (suc zero)) [] [] s name named given gives = (ap first_letter named, refl, gives)
number_from (suc (suc (suc n))) [] [] s name named given gives = absurd named
number_from n [] (v ∷ vs) s name named given gives = absurd given
number_from n (t ∷ ss) vs s name named given gives = absurd given

cell_is : (name : List ℕ) (k : CellId) (s : SortId) → IsCell here (written name) k s → (97 + k.0 ≡ first_letter name) × (color ≡ s)
cell_is name k s h =
    let found = number_from h.family.0 h.sorts h.arguments s name h.named h.given h.gives in
    (ap (λ n. 97 + n) (h.number ∙ found.1) ∙ found.0, found.2)

is_cell : (name : List ℕ) (n : ℕ) → first_letter name ≡ 97 + n → (k : CellId) → IsCellNamed here (written name) k → k ≡ cell_of n
is_cell name n letter k named =
    let found = (cell_is name k named.0 named.1).0 in
    let same : k.0 ≡ n = omega (arith, letter, found) in
    ap cell_of same

red_at : (n : ℕ) → StandsForValue here color red_value (record { 0 = n }) → n ≡ 0
red_at zero h = refl
red_at (suc zero) h = let letters : 103 ≡ 114 = ap letter_of h in absurd (omega (arith, letters))
red_at (suc (suc n)) h = absurd (cc)

is_entry : (name : List ℕ) (n : ℕ) → first_letter name ≡ 97 + n → (e : Entry) → IsEntryNamed here (written name) red_value e → e ≡ entry n red
is_entry name n letter e named =
    let found = cell_is name e.cell named.sort named.cell in
    let letters = found.0 in
    let cell : e.cell.0 ≡ n = omega (arith, letter, letters) in
    let value : e.value.0 ≡ 0 = red_at e.value.0 (subst (λ s. StandsForValue here s red_value e.value) (sym found.1) named.value) in
    let make : ℕ → ℕ → Entry = λ c v. record { cell = record { 0 = c }; value = record { 0 = v } } in
    ap (λ c. make c e.value.0) cell ∙ ap (make n) value

-- ---- commands

not_alone : (cell : Option CellId) (made : Sheet) → ¬ NeedsSearch with_views (asks_enter c_cell red_value) cell made
not_alone cell made (to_enter e named more) = more (subst (StandsAlone views) (sym (is_entry (codes "c") 2 refl e named)) worked_places.alone)

not_standing : (cell : Option CellId) (made : Sheet) → ¬ NeedsSearch with_views (asks_also a_cell red_value) cell made
not_standing cell made (to_enter_beside e named room) = room.new (subst (Contains views) (sym (is_entry (codes "a") 0 refl e named)) (has views (entry 0 red) refl))

abbrev IsSpareCell : CellId → Type 0
IsSpareCell k = AreSpare with_views (is_of_cell k)

abbrev IsSpareEntry : Entry → Type 0
IsSpareEntry e = AreSpare with_views (is_same_entry e)

pub worked_searches : WorkedSearches
worked_searches = record {
  entered_first = to_enter (entry 0 red) a_red worked_places.beside;
  added = to_enter_beside (entry 1 red) b_red (record { range = omega arith; new = lacks views (entry 1 red) refl; room = (let few : 0 < 8 = omega arith in few) });
  cleared = to_clear (cell_of 0) (color, cell_a) (0, entry 0 red, omega arith, refl, refl) worked_spare.cell_needed;
  removed = to_remove (entry 0 green) a_green (has views (entry 0 green) refl) worked_spare.green_needed;
  entered_alone = not_alone;
  added_standing = not_standing;
  cleared_empty = λ cell made. clearing_spare with_views b_cell cell made (λ k named. subst IsSpareCell (sym (is_cell (codes "b") 1 refl k named)) worked_spare.of_no_entry);
  cleared_spare = λ cell made. clearing_spare with_views c_cell cell made (λ k named. subst IsSpareCell (sym (is_cell (codes "c") 2 refl k named)) worked_spare.of_its_cell);
  removed_spare = λ cell made. removing_spare with_views c_cell red_value cell made (λ e named. subst IsSpareEntry (sym (is_entry (codes "c") 2 refl e named)) worked_spare.newer);
}
