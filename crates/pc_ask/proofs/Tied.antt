-- The cells that a sheet's rules tie together are tied together in the asked sheet: what its last piece reads ties the read parts.
use Rattle.std.proofs.Common.{◌≡◌, ◌==◌, ℕ, inl, inr, true, List, [], ◌∷◌, ◌++◌, filter, map, Contains, eqb-true, ap, sym, ◌∙◌, subst}
use Rattle.std.specs.List.{AllZip}
use Rattle.std.proofs.lemmas.List.{map-append}
use Rattle.std.proofs.lemmas.List.Elements.{All-contains, Contains-append_left, Contains-append_cases}
use Rattle.pc_lemmas.proofs.Elements.{contains_cases, contains_map, contains_none, kept_is}
use Rattle.pc_sheet.specs.Sheet.{Universe, Sheet, Statement, negation}
use Rattle.pc_sheet.specs.WellFormed.{IsWellFormed}
use Rattle.pc_sheet.specs.declared.ids.CellId.{CellId}
use Rattle.pc_sheet.specs.declared.ids.Entry.{Entry}
use Rattle.pc_parts.specs.Pieces.{Piece, piece, pieces}
use Rattle.pc_parts.specs.Parts.{Part, AreNeighbours, IsChain, IsComponent, IsDivision, part_without_cells}
use Rattle.pc_parts.specs.Leaves.{LeavesReadTheCells, cells_of}
use Rattle.pc_parts.specs.Components.{parts_of}
use Rattle.pc_parts.specs.PartSheets.{is_among}
use Rattle.pc_parts.specs.Unions.{has_entries}
use Rattle.pc_parts.proofs.Divided.{same_part}
use Rattle.pc_parts.proofs.Dividing.{parts_are_a_division}
use Rattle.pc_parts.proofs.Found.{parts_are_found}
use Rattle.pc_parts.proofs.Joining.{among_contains}
use Rattle.pc_world_list.specs.Choices.{cell_number}
use Rattle.pc_world_list.specs.Chosen.{chosen_parts}
use Rattle.pc_accept.specs.Asked.{asked}
use Rattle.pc_repairs.specs.inside.Joining.{IsPartSets}
use Rattle.pc_repairs.specs.declared.part_sets.PartSets.{PartSets}
use Rattle.pc_ask.specs.Asking.{IsAskedPart}
use Rattle.pc_ask.specs.inside.Reading.{is_cell_of, is_on_some, is_read, AreLastReads}
use Rattle.pc_ask.proofs.Lists.{there_any, zip_there}
use Rattle.pc_components.proofs.AskedLabels.{pieces_pushed, last_is}

-- a part without cells has none
no_cells : (ps : List Piece) (part : Part) (c : ℕ) → Contains (part_without_cells ps) part → ¬ Contains part.cells c
no_cells [] part c there on = contains_none part there
no_cells (p ∷ ps) part c there on =
    let none : Part = record { cells = []; pieces = p ∷ ps } in
    let is : none ≡ part = only none part there in
    contains_none c (subst (λ (x : Part). Contains x.cells c) (sym is) on)
  where
    only : (x y : Part) → Contains (x ∷ []) y → x ≡ y
    only x y c = elim (contains_cases x [] y c) [
      | inl is ↦ is
      | inr later ↦ absurd (contains_none y later)
    ]

module _ (sheet : Sheet) (f : Statement) (formed : IsWellFormed (asked sheet f)) where
  abbrev book : Sheet
  book = asked sheet f

  abbrev parts : List Part
  parts = parts_of book

  pub asked_division : IsDivision (asked sheet f) (parts_of (asked sheet f))
  asked_division = parts_are_a_division book parts formed (parts_are_found book formed)

  piece_stays : (p : Piece) → Contains (pieces sheet) p → Contains (pieces book) p
  piece_stays p c =
      let pushed = pieces_pushed sheet.universe f 0 sheet.rules in
      subst (λ ps. Contains ps p) (sym pushed.1) (Contains-append_left (pieces sheet) (piece pushed.0 [] [] (negation f) ∷ []) p c)

  one_step : (q : Part) → Contains parts q → (c d : ℕ) → Contains q.cells c → AreNeighbours sheet c d → Contains q.cells d
  one_step q there c d on (p, among, reads_c, reads_d) =
      let r = asked_division.every_piece p (piece_stays p among) in
      let same : r.0 ≡ q = same_part parts asked_division.apart r.0 q r.1 there c (asked_division.reads r.0 r.1 p r.2 c reads_c) on in
      subst (λ (s : Part). Contains s.cells d) same (asked_division.reads r.0 r.1 p r.2 d reads_d)

  chained : (q : Part) → Contains parts q → (chain : List ℕ) (c d : ℕ) → Contains q.cells c → IsChain sheet c chain d → Contains q.cells d
  chained q there [] c d on is = subst (Contains q.cells) is on
  chained q there (m ∷ ms) c d on (near, rest) = chained q there ms m d (one_step q there c m on near) rest

  -- a part of the sheet lies within one of the asked sheet's
  component_tied : (p : Part) → IsComponent sheet p → (q : Part) → Contains parts q → (c d : ℕ) → Contains p.cells c → Contains q.cells c → Contains p.cells d → Contains q.cells d
  component_tied p k q there c d on_p on_q on_d =
      let h = asked_division.every_cell k.first k.within in
      let from_c = (k.joined c).0 on_p in
      let from_d = (k.joined d).0 on_d in
      let same : h.0 ≡ q = same_part parts asked_division.apart h.0 q h.1 there c (chained h.0 h.1 from_c.0 k.first c h.2 from_c.1) on_q in
      subst (λ (s : Part). Contains s.cells d) same (chained h.0 h.1 from_d.0 k.first d h.2 from_d.1)

  module _ (own : IsWellFormed sheet) where
    tied : (p : Part) → Contains (parts_of sheet) p → (q : Part) → Contains parts q → (c d : ℕ) → Contains p.cells c → Contains q.cells c → Contains p.cells d → Contains q.cells d
    tied p among q there c d on_p on_q on_d =
        let found = parts_are_found sheet own in
        elim (Contains-append_cases found.components (part_without_cells found.read_none) p (subst (λ ps. Contains ps p) found.are among)) [
          | inl is ↦ component_tied p (All-contains (IsComponent sheet) found.components p found.each is) q there c d on_p on_q on_d
          | inr none ↦ absurd (no_cells found.read_none p c none on_p)
        ]

    module _ (leaves : LeavesReadTheCells) (reads : List ℕ) (last : AreLastReads (asked sheet f) reads) (qs : List PartSets) (zip : AllZip (IsPartSets sheet) (chosen_parts sheet) qs) where
      -- what is read is in each part with what is asked
      read_there : (q : Part) → IsAskedPart (asked sheet f) q → (c : ℕ) → Contains reads c → Contains q.cells c
      read_there q h c on =
          let u : Universe = sheet.universe in
          let pushed = pieces_pushed u f 0 sheet.rules in
          let end : Piece = piece pushed.0 [] [] (negation f) in
          let is : map (cells_of u) (pieces book) ≡ map (cells_of u) (pieces sheet) ++ cells_of u end ∷ [] = ap (map (cells_of u)) pushed.1 ∙ map-append (cells_of u) (pieces sheet) (end ∷ []) in
          let same : cells_of u end ≡ reads = last_is (map (cells_of u) (pieces sheet)) (map (cells_of u) (pieces book)) (cells_of u end) reads is last in
          let piece_is : end ≡ h.last = last_is (pieces sheet) (pieces book) end h.last pushed.1 h.last_is in
          let among : Contains (pieces book) h.last = asked_division.pieces q h.there h.last h.has in
          asked_division.reads q h.there h.last h.has c ((leaves book formed h.last among c).0 (subst (λ (p : Piece). Contains (cells_of u p) c) piece_is (subst (λ ns. Contains ns c) (sym same) on)))

      pub on_asked : (e : Entry) → is_on_some (filter (is_read reads) qs) e ≡ true → (q : Part) → IsAskedPart (asked sheet f) q → Contains q.cells e.cell.0
      on_asked e is q h =
          let r = there_any (is_cell_of e.cell) (filter (is_read reads) qs) is in
          let known = kept_is (is_read reads) qs r.0 r.1 in
          let p = zip_there (IsPartSets sheet) (chosen_parts sheet) qs zip r.0 known.0 in
          let d = there_any (λ (d : CellId). d.0 == e.cell.0) r.0.cells.now r.2 in
          let c = there_any (λ (d : CellId). is_among reads d.0) r.0.cells.now known.1 in
          let on_d : Contains p.0.cells e.cell.0 = subst (λ ns. Contains ns e.cell.0) p.2.cells_are (subst (Contains (map cell_number r.0.cells.now)) (eqb-true d.0.0 e.cell.0 d.2) (contains_map cell_number r.0.cells.now d.0 d.1)) in
          let on_c : Contains p.0.cells c.0.0 = subst (λ ns. Contains ns c.0.0) p.2.cells_are (contains_map cell_number r.0.cells.now c.0 c.1) in
          tied p.0 (kept_is (has_entries sheet) (parts_of sheet) p.0 p.1).0 q h.there c.0.0 e.cell.0 on_c (read_there q h c.0.0 (among_contains reads c.0.0 c.2)) on_d
