-- Parts of a cell's lines, by what they are made of.
use Rattle.std.proofs.Common.{◌≡◌, ℕ, ◌<◌, Bool, true, false, List, [], ◌∷◌, ◌++◌, length, nat_eq, codes, slice_get, slice_index_or, Some, arith, eqb-true, ap, refl, sym, ◌∙◌}
use Rattle.std.specs.Option.{option_map}
use Rattle.std.proofs.lemmas.Option.{slice_get-get_or, slice_get-map}
use Rattle.pc_sheet.specs.Sheet.{Universe}
use Rattle.pc_sheet.specs.declared.ids.SortId.{SortId}
use Rattle.pc_sheet.specs.declared.ids.Entry.{Entry}
use Rattle.pc_writer.specs.Spelling.{entries_text, joined, value_text}
use Rattle.pc_display.specs.Show.{because, entered_text, entered_texts}

pub because_some : (u : Universe) (es : List Entry) (none : Bool) → none ≡ nat_eq (length es) 0 → none ≡ false → because u es ≡ codes " because " ++ entries_text u es
because_some u [] none is not = absurd (cc)
because_some u (e ∷ es) none is not = refl

-- ---- the values of entries

abbrev pub no_entry : Entry
no_entry = record { cell = record { 0 = 0 }; value = record { 0 = 0 } }

module _ (u : Universe) (s : SortId) where
  pub value_at : (es : List Entry) (i : ℕ) (d : Entry) → i < length es → slice_get (entered_texts u s es) i ≡ Some (value_text u s (slice_index_or es i d).value)
  value_at es i d below = slice_get-map (λ e. value_text u s e.value) es i ∙ ap (option_map (λ e. value_text u s e.value)) (slice_get-get_or es i d below)

  pub entered_none : (es : List Entry) (none : Bool) → none ≡ nat_eq (length es) 0 → none ≡ true → codes "-" ≡ entered_text u s es
  entered_none [] none is none_is = refl
  entered_none (e ∷ es) none is none_is = absurd (omega (arith, eqb-true (length (e ∷ es)) 0 (sym is ∙ none_is)))

  pub entered_some : (es : List Entry) (none : Bool) → none ≡ nat_eq (length es) 0 → none ≡ false → joined (codes ", ") (entered_texts u s es) ≡ entered_text u s es
  entered_some [] none is not = absurd (cc)
  entered_some (e ∷ es) none is not = refl
