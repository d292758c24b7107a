-- Rules by their names, and entries by their cells.
use Rattle.std.proofs.Common.{◌≡◌, ◌≢◌, ◌⊎◌, ℕ, zero, suc, refl, ◌<◌, true, false, List, [], ◌∷◌, map, Any, Contains, sym, ap, arith, inl, inr, ◌∙◌}
use Rattle.std.specs.List.{list_any}
use Rattle.std.specs.Str.{bytes_eq}
use Rattle.std.proofs.lemmas.Bool.{cases_lt, cases_eq, cases_Bool, eq-eqb, ne_eqb, true≢false}
use Rattle.std.proofs.lemmas.Bool.Decides.{not_from_Decides}
use Rattle.std.proofs.lemmas.Slice.Eq.{bytes_eq-Decides}
use Rattle.std.proofs.lemmas.List.Elements.{All-nil, All-cons, All-contains}
use Rattle.std.proofs.lemmas.List.{get_or-map, length-map}
use Rattle.pc_sheet.specs.Sheet.{Sheet, NamedStatement}
use Rattle.pc_sheet.specs.WellFormed.{AreDifferent, IsWellFormed, is_of_cell, rule_name}
use Rattle.pc_sheet.specs.declared.ids.CellId.{CellId}
use Rattle.pc_sheet.specs.declared.ids.Entry.{Entry}
use Rattle.pc_books.specs.Edits.{is_same_entry}
use Rattle.pc_books.proofs.EntryLemmas.{is_same, found_standing, not_found}
use Rattle.pc_justify_laws.specs.Edits.{HasNone}
use Rattle.pc_books.specs.RuleNames.{IsNewName, IsRuleAt}
use Rattle.pc_spreadsheet.specs.Tasks.{HasEntryOf}

-- ---- rules

-- a name that a rule has isn't new
pub not_new : (rules : List NamedStatement) (n : List ℕ) (place : ℕ) (r : NamedStatement) → IsRuleAt rules n place → IsNewName rules n → ⊥
not_new rules n place r at new = new place r at.0 (at.1 r)

not_below : (rules : List NamedStatement) (n : List ℕ) (r : NamedStatement) (i j : ℕ) → AreDifferent (map rule_name rules) → IsRuleAt rules n i → IsRuleAt rules n j → ¬ (i < j)
not_below rules n r i j different at there = λ lt.
    different i j n lt (omega (arith, there.0, length-map rules rule_name))
    (get_or-map rule_name rules i r n at.0 ∙ at.1 r ∙ sym (there.1 r) ∙ sym (get_or-map rule_name rules j r n there.0))

-- rules have different names, so that a name has one place
pub one_place : (sheet : Sheet) (n : List ℕ) (r : NamedStatement) (i j : ℕ) → IsWellFormed sheet → IsRuleAt sheet.rules n i → IsRuleAt sheet.rules n j → i ≡ j
one_place sheet n r i j formed at there =
    elim (cases_lt i j) [
      | inl lt ↦ absurd (not_below sheet.rules n r i j formed.rules.different at there lt)
      | inr le ↦ elim (cases_lt j i) [
        | inl lt ↦ absurd (not_below sheet.rules n r j i formed.rules.different there at lt)
        | inr other ↦ omega (arith, le, other)
      ]
    ]

-- a rule has the name, or the name is new
pub placed_or_new : (rules : List NamedStatement) (n : List ℕ) → ((place : ℕ) × IsRuleAt rules n place) ⊎ IsNewName rules n
placed_or_new [] n = inr (All-nil (λ (r : NamedStatement). r.name ≢ n))
placed_or_new (r ∷ rs) n = elim (cases_Bool (bytes_eq r.name n)) [
  | inl same ↦ inl (zero, (omega arith, λ d. (bytes_eq-Decides r.name n).0 same))
  | inr other ↦ elim (placed_or_new rs n) [
    | inl at ↦ inl (suc at.0, (omega (arith, at.1.0), at.1.1))
    | inr new ↦ inr (All-cons (λ (q : NamedStatement). q.name ≢ n) r rs (not_from_Decides (bytes_eq r.name n) (bytes_eq-Decides r.name n) other) new)
  ]
]

-- ---- entries

abbrev cell_from : ℕ → CellId
cell_from n = record { 0 = n }

-- a cell has an entry or lacks one
pub has_or_lacks : (es : List Entry) (k : CellId) → Any (λ e. e.cell ≡ k) es ⊎ HasNone (is_of_cell k) es
has_or_lacks [] k = inr (All-nil (λ (e : Entry). is_of_cell k e ≡ false))
has_or_lacks (x ∷ xs) k = elim (cases_eq x.cell.0 k.0) [
  | inl is ↦ inl (zero, x, omega arith, refl, ap cell_from is)
  | inr other ↦ elim (has_or_lacks xs k) [
    | inl has ↦ inl (suc has.0, has.1, omega (arith, has.2), has.3, has.4)
    | inr lacks ↦ inr (All-cons (λ (e : Entry). is_of_cell k e ≡ false) x xs (ne_eqb x.cell.0 k.0 other) lacks)
  ]
]

abbrev place_of : CellId → ℕ
place_of c = c.0

of_cell : (e : Entry) (k : CellId) → e.cell ≡ k → is_of_cell k e ≡ true
of_cell e k is = eq-eqb e.cell.0 k.0 (ap place_of is)

pub lacks_none : (sheet : Sheet) (k : CellId) → HasNone (is_of_cell k) sheet.entries → HasEntryOf sheet k → ⊥
lacks_none sheet k lacks has =
    true≢false (sym (of_cell has.1 k has.4) ∙ All-contains (λ (e : Entry). is_of_cell k e ≡ false) sheet.entries has.1 lacks (has.0, has.2, has.3))

-- an entry stands or it doesn't
pub stands_or_not : (es : List Entry) (e : Entry) → Contains es e ⊎ (¬ Contains es e)
stands_or_not es e = elim (cases_Bool (list_any (is_same_entry e) es)) [
  | inl found ↦ inl (found_standing e es found)
  | inr none ↦ inr (not_found e es none)
]

pub lacks_that : (es : List Entry) (e : Entry) → HasNone (is_same_entry e) es → ¬ Contains es e
lacks_that es e lacks there = true≢false (sym (is_same e e refl) ∙ All-contains (λ (f : Entry). is_same_entry e f ≡ false) es e lacks there)
