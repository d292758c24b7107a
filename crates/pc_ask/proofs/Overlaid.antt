-- What fits the part of an asked sheet that has what is asked, laid over what fits the sheet.
use Rattle.std.proofs.Common.{◌≡◌, ℕ, ◌⊎◌, inl, inr, List, [], ◌∷◌, Contains, sym, ◌∙◌, subst}
use Rattle.std.proofs.lemmas.List.Elements.{All-contains, Contains-append_cases}
use Rattle.pc_lemmas.proofs.Elements.{all_from, contains_cases, contains_none}
use Rattle.pc_sheet.specs.Sheet.{Universe, Sheet, Statement, negation}
use Rattle.pc_sheet.specs.Entailment.{HasAll, HasEntry, IsAssignment, IsConsistent, Fits}
use Rattle.pc_sheet.specs.WellFormed.{IsWellFormed}
use Rattle.pc_sheet.specs.declared.ids.Entry.{Entry}
use Rattle.pc_sheet.specs.declared.ids.ValueId.{ValueId}
use Rattle.pc_parts.specs.Pieces.{Piece, piece, pieces, PieceHolds, ReadsCell}
use Rattle.pc_parts.specs.Parts.{Part}
use Rattle.pc_parts.specs.Components.{parts_of}
use Rattle.pc_parts.specs.PartSheets.{sheet_of}
use Rattle.pc_parts.proofs.ByReads.{truth_is_by_reads}
use Rattle.pc_parts.proofs.Consistent.{has_entry_still}
use Rattle.pc_parts.proofs.Divided.{over, over_assigned, over_here, over_there, part_holds, same_part}
use Rattle.pc_parts.proofs.PiecesHold.{fitting_is_by_pieces}
use Rattle.pc_reason.specs.Fitting.{IsFitting}
use Rattle.pc_accept.specs.Asked.{asked}
use Rattle.pc_ask.specs.Asking.{IsAskedPart}
use Rattle.pc_ask.proofs.Chosen.{shared}
use Rattle.pc_components.proofs.AskedLabels.{pieces_pushed, last_is}
use Rattle.pc_ask.proofs.Tied.{asked_division}

module _ (sheet : Sheet) (f : Statement) (formed : IsWellFormed (asked sheet f)) (q : Part) (h : IsAskedPart (asked sheet f) q) (base : List ValueId) (fit : IsFitting sheet base)
    (a : List ValueId) (assigns : IsAssignment sheet.universe a) (fits : Fits (sheet_of (asked sheet f) q) a) where
  abbrev book : Sheet
  book = asked sheet f

  abbrev u : Universe
  u = sheet.universe

  abbrev parts : List Part
  parts = parts_of book

  abbrev laid : List ValueId
  laid = over u q a base assigns fit.assigns

  -- a piece of the part
  of_part : (p : Piece) → Contains q.pieces p → PieceHolds u laid p
  of_part p c =
      (truth_is_by_reads u p a laid assigns (λ n reads. over_here u q a base assigns fit.assigns n ((asked_division sheet f formed).reads q h.there p c n reads))).0
      (All-contains (PieceHolds u a) q.pieces p (part_holds book q a fits) c)

  -- a piece of the sheet in a part with other cells
  of_others : (p : Piece) → Contains (pieces sheet) p → ((n : ℕ) → ReadsCell u p n → ¬ Contains q.cells n) → PieceHolds u laid p
  of_others p c off =
      (truth_is_by_reads u p base laid fit.assigns (λ n reads. over_there u q a base assigns fit.assigns n (off n reads))).0
      (All-contains (PieceHolds u base) (pieces sheet) p ((fitting_is_by_pieces sheet base).0 fit.fits) c)

  -- a piece of the asked sheet is the last, or one of the sheet's
  last_or_old : (p : Piece) → Contains (pieces book) p → Contains (pieces sheet) p ⊎ (h.last ≡ p)
  last_or_old p c =
      let pushed = pieces_pushed u f 0 sheet.rules in
      let end : Piece = piece pushed.0 [] [] (negation f) in
      let end_is : end ≡ h.last = last_is (pieces sheet) (pieces book) end h.last pushed.1 h.last_is in
      elim (Contains-append_cases (pieces sheet) (end ∷ []) p (subst (λ ps. Contains ps p) pushed.1 c)) [
        | inl old ↦ inl old
        | inr new ↦ elim (contains_cases end [] p new) [
          | inl is ↦ inr (sym end_is ∙ is)
          | inr none ↦ absurd (contains_none p none)
        ]
      ]

  holds : (p : Piece) → Contains (pieces book) p → PieceHolds u laid p
  holds p c =
      let d = asked_division sheet f formed in
      let r = d.every_piece p c in
      elim (shared r.0.cells q.cells) [
        | inl both ↦
            let same : r.0 ≡ q = same_part parts d.apart r.0 q r.1 h.there both.0 both.1 both.2 in
            of_part p (subst (λ (s : Part). Contains s.pieces p) same r.2)
        | inr none ↦ elim (last_or_old p c) [
          | inl old ↦ of_others p old (λ n reads on. none n (d.reads r.0 r.1 p r.2 n reads) on)
          | inr is ↦ of_part p (subst (Contains q.pieces) is h.has)
        ]
      ]

  laid_fits : Fits (asked sheet f) laid
  laid_fits = (fitting_is_by_pieces book laid).1 (all_from (PieceHolds u laid) (pieces book) holds)

  -- entries on the part's cells that it has can stand together
  pub stand : (set : List Entry) → HasAll a set → ((e : Entry) → Contains set e → Contains q.cells e.cell.0) → IsConsistent (asked sheet f) set
  stand set has on = (
    laid,
    record {
      assigns = over_assigned u q a base assigns fit.assigns;
      fits = laid_fits;
      has = all_from (HasEntry laid) set (λ e c. has_entry_still a laid e (over_here u q a base assigns fit.assigns e.cell.0 (on e c)) (All-contains (HasEntry a) set e has c));
    },
  )
