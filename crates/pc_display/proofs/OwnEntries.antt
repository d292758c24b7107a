-- The entries of a cell, found one after another.
use Rattle.std.proofs.Common.{◌≡◌, ℕ, ◌+◌, ◌<◌, ◌≤◌, List, [], ◌∷◌, ◌++◌, length, get_or, take, drop, arith, ap}
use Rattle.std.specs.List.{filter}
use Rattle.std.proofs.lemmas.List.{length-append, take-append-drop}
use Rattle.std.proofs.lemmas.List.Elements.{filter-append, filter_more}
use Rattle.pc_sheet.specs.WellFormed.{is_of_cell, entries_of}
use Rattle.pc_sheet.specs.declared.ids.CellId.{CellId}
use Rattle.pc_sheet.specs.declared.ids.Entry.{Entry}

module _ (c : CellId) (es : List Entry) (i : ℕ) (d : Entry) (below : i < length es) where
  pub own_more : entries_of c (take (i + 1) es) ≡ entries_of c (take i es) ++ entries_of c (get_or es i d ∷ [])
  own_more = filter_more (is_of_cell c) es i d below

  -- there is room for the next one where there is room for all
  pub own_room : (most : ℕ) → length (entries_of c es) ≤ most → length (entries_of c (take i es)) + length (entries_of c (get_or es i d ∷ [])) ≤ most
  own_room most few =
      let p = is_of_cell c in
      let front = filter p (take (i + 1) es) in
      let rest = filter p (drop (i + 1) es) in
      let whole = ap (λ (xs : List Entry). length (filter p xs)) (take-append-drop (i + 1) es) in
      let parts = ap (λ (xs : List Entry). length xs) (filter-append p (take (i + 1) es) (drop (i + 1) es)) in
      let more = ap (λ (xs : List Entry). length xs) own_more in
      omega (arith, few, whole, parts, more, length-append front rest, length-append (entries_of c (take i es)) (entries_of c (get_or es i d ∷ [])))
