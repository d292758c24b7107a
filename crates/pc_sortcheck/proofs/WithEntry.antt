-- A well-formed sheet with an entry beside those of its cell.
use Rattle.std.proofs.Common.{◌≡◌, ◌≤◌, Bool, true, false, cond, eq-eqb, [], ◌∷◌, ◌++◌, length, inl, inr, arith, ap, ◌∙◌, refl}
use Rattle.std.specs.List.{list_any}
use Rattle.std.proofs.lemmas.List.{length-append}
use Rattle.std.proofs.lemmas.List.Elements.{filter-append}
use Rattle.pc_sheet.specs.Limits.{most_entries}
use Rattle.pc_sheet.specs.Sheet.{Sheet}
use Rattle.pc_sheet.specs.WellFormed.{IsEntryOf, IsWellFormed, is_of_cell, entries_of}
use Rattle.pc_sheet.specs.declared.ids.CellId.{CellId}
use Rattle.pc_sheet.specs.declared.ids.Entry.{Entry}
use Rattle.pc_books.specs.Edits.{is_same_entry, also_entered}
use Rattle.pc_books.proofs.EntryLemmas.{found_standing, entries_beside}
use Rattle.pc_sortcheck.specs.DeclarationFaults.{HasRoomForEntry}

module _ (s : Sheet) (e : Entry) where
  pub also_formed : IsWellFormed s → IsEntryOf s.universe e → HasRoomForEntry s e → IsWellFormed (also_entered s e)
  also_formed h is room = record { universe = h.universe; rules = h.rules; entries = entries_beside s.universe s.entries e h.entries is room }

  -- the cell had room for it
  pub also_needs : IsWellFormed (also_entered s e) → HasRoomForEntry s e
  also_needs h = by (list_any (is_same_entry e) s.entries) refl h.entries.few
    where
      by : (b : Bool) → list_any (is_same_entry e) s.entries ≡ b → ((c : CellId) → length (entries_of c (cond b s.entries (s.entries ++ e ∷ []))) ≤ most_entries) → HasRoomForEntry s e
      by true stands few = inl (found_standing e s.entries stands)
      by false stands few =
          let parts = ap length (filter-append (is_of_cell e.cell) s.entries (e ∷ [])) ∙ length-append (entries_of e.cell s.entries) (entries_of e.cell (e ∷ [])) in
          let own : length (entries_of e.cell (e ∷ [])) ≡ 1 = ap (λ t. length (cond t (e ∷ []) [])) (eq-eqb e.cell.0 e.cell.0 refl) in
          let most = few e.cell in
          inr (omega (arith, parts, own, most))
