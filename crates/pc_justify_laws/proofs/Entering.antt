-- What the edits of entries make of them.
use Rattle.std.proofs.Common.{◌≡◌, ◌≢◌, ℕ, inl, inr, Bool, true, false, cond, not, eqb, eq-eqb, ◌&&◌, List, [], ◌∷◌, ◌++◌, filter, All, Contains, arith, ap, refl, sym, ◌∙◌}
use Rattle.std.specs.List.{list_any}
use Rattle.std.proofs.lemmas.Bool.{cases_Bool, eqb-true, false≢true}
use Rattle.std.proofs.lemmas.List.{append-nil}
use Rattle.std.proofs.lemmas.List.Elements.{All-contains}
use Rattle.pc_sheet.specs.Sheet.{Sheet}
use Rattle.pc_sheet.specs.WellFormed.{is_of_cell, entries_of}
use Rattle.pc_sheet.specs.declared.ids.CellId.{CellId}
use Rattle.pc_sheet.specs.declared.ids.Entry.{Entry}
use Rattle.pc_lemmas.proofs.Elements.{kept, kept_is, kept_all}
use Rattle.pc_books.specs.Edits.{is_same_entry, is_rival, agrees_with}
use Rattle.pc_books.proofs.EntryLemmas.{same_is, standing_found, found_standing}
use Rattle.pc_justify_laws.specs.Edits.{takes_none, IsTakenOf}
use Rattle.pc_justify_laws.specs.EditLaws.{EachEntering, EachAdding, EachRemoving, EachClearing}

abbrev with_entries : Sheet → List Entry → Sheet
with_entries sheet es = record sheet { entries = es }

-- ---- of which cell they are

pub of_that_cell : (c : CellId) → IsTakenOf c (is_of_cell c)
of_that_cell c e is = ap (λ (n : ℕ). let x : CellId = record { 0 = n } in x) (omega (arith, eqb-true, is))

pub same_of_cell : (e : Entry) → IsTakenOf e.cell (is_same_entry e)
same_of_cell e f is = let cell : Entry → CellId = λ x. x.cell in ap cell (same_is e f is)

pub rival_of_cell : (e : Entry) → IsTakenOf e.cell (is_rival e)
rival_of_cell e f is = by (is_of_cell e.cell f) refl is
  where
    by : (a : Bool) → is_of_cell e.cell f ≡ a → a && not (eqb f.value.0 e.value.0) ≡ true → f.cell ≡ e.cell
    by true of_cell h = of_that_cell e.cell f of_cell
    by false of_cell h = absurd (false≢true h)

-- ---- whether the entry stands

-- it agrees with itself
agrees : (e f : Entry) → f ≡ e → agrees_with e f ≡ true
agrees e f same = ap (λ b. not (is_of_cell e.cell f && not b)) (eq-eqb f.value.0 e.value.0 (let value : Entry → ℕ = λ x. x.value.0 in ap value same)) ∙ either (is_of_cell e.cell f)
  where
    either : (a : Bool) → not (a && not true) ≡ true
    either true = refl
    either false = refl

-- what is left of the others has it exactly where it stood
stands_left : (e : Entry) (es : List Entry) → Contains es e → list_any (is_same_entry e) (filter (agrees_with e) es) ≡ true
stands_left e es c = standing_found e (filter (agrees_with e) es) (kept (agrees_with e) es e c (agrees e e refl))

lacks_left : (e : Entry) (es : List Entry) → ¬ Contains es e → list_any (is_same_entry e) (filter (agrees_with e) es) ≡ false
lacks_left e es new = elim (cases_Bool (list_any (is_same_entry e) (filter (agrees_with e) es))) [
  | inl found ↦ absurd (new (kept_is (agrees_with e) es e (found_standing e (filter (agrees_with e) es) found)).0)
  | inr none ↦ none
]

lacks : (e : Entry) (es : List Entry) → ¬ Contains es e → list_any (is_same_entry e) es ≡ false
lacks e es new = elim (cases_Bool (list_any (is_same_entry e) es)) [ inl found ↦ absurd (new (found_standing e es found)) | inr none ↦ none ]

-- where it stands alone none goes
alone_stays : (e : Entry) (es : List Entry) → All (λ f. f ≡ e) (entries_of e.cell es) → filter (agrees_with e) es ≡ es
alone_stays e es alone = kept_all (agrees_with e) es (λ f c. elim (cases_Bool (is_of_cell e.cell f)) [
  | inl of_cell ↦ agrees e f (All-contains (λ x. x ≡ e) (entries_of e.cell es) f alone (kept (is_of_cell e.cell) es f c of_cell))
  | inr other ↦ ap (λ a. not (a && not (eqb f.value.0 e.value.0))) other
])

-- ---- the edits

pub entering_edits : EachEntering
entering_edits sheet e = record {
  takes = rival_of_cell e;
  adds = λ new. ap (λ b. with_entries sheet (cond b (filter (agrees_with e) sheet.entries) (filter (agrees_with e) sheet.entries ++ e ∷ []))) (lacks_left e sheet.entries new);
  keeps = λ stands.
      ap (λ b. with_entries sheet (cond b (filter (agrees_with e) sheet.entries) (filter (agrees_with e) sheet.entries ++ e ∷ []))) (stands_left e sheet.entries stands)
      ∙ ap (with_entries sheet) (sym (append-nil (filter (agrees_with e) sheet.entries)));
  alone = λ stands alone.
      ap (λ b. with_entries sheet (cond b (filter (agrees_with e) sheet.entries) (filter (agrees_with e) sheet.entries ++ e ∷ []))) (stands_left e sheet.entries stands)
      ∙ ap (with_entries sheet) (alone_stays e sheet.entries alone);
}

pub adding_edits : EachAdding
adding_edits sheet e = record {
  adds = λ new.
      ap (λ b. with_entries sheet (cond b sheet.entries (sheet.entries ++ e ∷ []))) (lacks e sheet.entries new)
      ∙ ap (λ es. with_entries sheet (es ++ e ∷ [])) (sym (kept_all (λ f. not (takes_none f)) sheet.entries (λ f c. refl)));
  stands = λ there. ap (λ b. with_entries sheet (cond b sheet.entries (sheet.entries ++ e ∷ []))) (standing_found e sheet.entries there);
}

pub removing_edits : EachRemoving
removing_edits sheet e = record { takes = same_of_cell e; removes = ap (with_entries sheet) (sym (append-nil (filter (λ f. not (is_same_entry e f)) sheet.entries))) }

pub clearing_edits : EachClearing
clearing_edits sheet c = record { takes = of_that_cell c; clears = ap (with_entries sheet) (sym (append-nil (filter (λ f. not (is_of_cell c f)) sheet.entries))) }
