-- The part of an asked sheet that has what is asked is that of its last piece.
use Rattle.std.proofs.Common.{◌≡◌, ℕ, ◌-◌, List, length, slice_get, ap, sym, ◌∙◌}
use Rattle.pc_lits.specs.declared.literal.Var.{Var}
use Rattle.pc_sheet.specs.Sheet.{Sheet}
use Rattle.pc_sheet.specs.declared.ids.CellId.{CellId}
use Rattle.pc_parts.specs.Pieces.{pieces}
use Rattle.pc_components.specs.View.{IsPartOfPiece}
use Rattle.pc_ask.specs.inside.Parts.{IsAskedOver}

pub asked_over : (book : Sheet) (k : ℕ) (cells : List CellId) (own : List Var) → k ≡ length (pieces book) - 1 → IsPartOfPiece book k cells own → IsAskedOver book cells own
asked_over book k cells own last h = record {
  part = h.part;
  is = record { there = h.there; last = h.piece; last_is = ap (slice_get (pieces book)) (sym last) ∙ h.piece_is; has = h.has };
  cells_are = h.cells_are;
  axioms = h.axioms;
  axioms_are = h.axioms_are;
  own_are = h.own_are;
}
