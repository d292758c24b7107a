-- The cells that the pieces of a well-formed sheet read are cells of the sheet.
use Rattle.std.proofs.Common.{ℕ, ◌<◌, List, [], ◌∷◌, map, Contains}
use Rattle.pc_sheet.specs.Sheet.{Universe, Sheet}
use Rattle.pc_sheet.specs.WellFormed.{IsWellFormed}
use Rattle.pc_parts.specs.Leaves.{cells_of}
use Rattle.pc_parts.specs.Parts.{cell_count}
use Rattle.pc_parts.specs.Pieces.{Piece, pieces}
use Rattle.pc_lemmas.proofs.Elements.{contains_first, contains_later}
use Rattle.pc_parts.proofs.LeafReads.{leaves_read_the_cells}
use Rattle.pc_parts.proofs.ReadWithin.{reads_cells}
use Rattle.pc_components.specs.inside.Within.{AreBelow, AreAllBelow}

below : (n : ℕ) (cs : List ℕ) → ((c : ℕ) → Contains cs c → c < n) → AreBelow n cs
below n [] h = tt
below n (c ∷ cs) h = (h c (contains_first c cs), below n cs (λ d there. h d (contains_later c cs d there)))

all_below : (u : Universe) (n : ℕ) (ps : List Piece) → ((p : Piece) → Contains ps p → AreBelow n (cells_of u p)) → AreAllBelow n (map (cells_of u) ps)
all_below u n [] h = tt
all_below u n (p ∷ ps) h = (h p (contains_first p ps), all_below u n ps (λ q there. h q (contains_later p ps q there)))

pub rows_within : (sheet : Sheet) → IsWellFormed sheet → AreAllBelow (cell_count sheet.universe) (map (cells_of sheet.universe) (pieces sheet))
rows_within sheet formed =
    let u = sheet.universe in
    all_below u (cell_count u) (pieces sheet) (λ p there.
    below (cell_count u) (cells_of u p) (λ c h. reads_cells sheet formed p there c ((leaves_read_the_cells sheet formed p there c).0 h)))
