-- What is found of the part of a piece is that part's.
use Rattle.std.proofs.Common.{◌≡◌, ℕ, ◌<◌, ◌≤◌, ◌^◌, List, [], ◌∷◌, map, length, get_or, Contains, Some, slice_get, refl, ap, sym, ◌∙◌, subst, arith}
use Rattle.std.proofs.lemmas.List.{length-map}
use Rattle.std.proofs.lemmas.List.FromFn.{length-map-range_with_len}
use Rattle.std.proofs.lemmas.Option.{get_or_from_slice_get}
use Rattle.pc_lits.specs.declared.literal.Var.{Var}
use Rattle.pc_sheet.specs.Sheet.{Universe, Sheet}
use Rattle.pc_sheet.specs.Entailment.{cell_sizes}
use Rattle.pc_sheet.specs.WellFormed.{IsWellFormed}
use Rattle.pc_sheet.specs.declared.ids.CellId.{CellId}
use Rattle.pc_parts.specs.Components.{labels_of, parts_of}
use Rattle.pc_parts.specs.Leaves.{cells_of}
use Rattle.pc_parts.specs.Parts.{Part}
use Rattle.pc_parts.specs.Pieces.{Piece, pieces}
use Rattle.pc_parts.proofs.Dividing.{parts_are_a_division}
use Rattle.pc_parts.proofs.Found.{parts_are_found}
use Rattle.pc_ground.specs.Ground.{clauses}
use Rattle.pc_ground.specs.Variables.{variable_count}
use Rattle.pc_components.specs.PartAxioms.{AreAxiomsOf, AreVariablesOf}
use Rattle.pc_components.specs.View.{IsPartOfPiece, number_of, variable_number}
use Rattle.pc_components.specs.inside.ClauseVariables.{variables_in}
use Rattle.pc_components.specs.inside.Numbers.{alone}
use Rattle.pc_components.specs.inside.Owners.{number_by, owners_by}
use Rattle.pc_components.specs.inside.PartNumbers.{HasNumbers}
use Rattle.pc_components.specs.inside.Turned.{places_from, turned}
use Rattle.pc_components.specs.inside.Within.{AreBelow}
use Rattle.pc_components.proofs.KeptRight.{axioms_right, item, mapped, part_of_number, place_of, variables_right, within}
use Rattle.pc_components.proofs.OwnedByParts.{pieces_at, slice_in}
use Rattle.pc_components.proofs.PartNumbersRight.{many_cells}
use Rattle.pc_components.proofs.TraversalRight.{all_below}
use Rattle.pc_components.proofs.TurnedMeans.{places_are}

-- places of rows are below the number of rows
places_fit : (m i : ℕ) (rows : List (List ℕ)) → length rows ≤ m → AreBelow m (places_from 0 rows i)
places_fit m i rows few = all_below m (places_from 0 rows i) (λ k has. let a = places_are 0 rows i k has in let l = within rows a.0 a.2 a.3 in omega (arith, l, few, a.1))

pub cells_below : (sheet : Sheet) (count : ℕ) (cells_by pieces_by : List ℕ) → HasNumbers sheet count cells_by pieces_by → length (cell_sizes sheet.universe) ≤ 4096 → (i : ℕ) (cells : List ℕ) → cells ≡ places_from 0 (map alone cells_by) i
    → AreBelow (2 ^ 16) cells
cells_below sheet count cells_by pieces_by has few i cells is =
    subst (AreBelow (2 ^ 16)) (sym is) (places_fit (2 ^ 16) i (map alone cells_by) (let a = length-map cells_by alone in let b = many_cells sheet count cells_by pieces_by has in omega (arith, a, b, few)))

pub variables_below : (n i : ℕ) (rows : List (List ℕ)) (used : List ℕ) → used ≡ places_from 0 (turned n rows) i → n < 2 ^ 32 → AreBelow (2 ^ 32) used
variables_below n i rows used is few = subst (AreBelow (2 ^ 32)) (sym is) (places_fit (2 ^ 32) i (turned n rows) (let l = length-map-range_with_len (places_from 0 rows) 0 n in omega (arith, l, few)))

module _ (sheet : Sheet) (formed : IsWellFormed sheet) (count : ℕ) (cells_by pieces_by : List ℕ) (has : HasNumbers sheet count cells_by pieces_by) (k number : ℕ)
    (low : k < length (map (cells_of sheet.universe) (pieces sheet))) (at : number ≡ get_or pieces_by k number) where
  abbrev u : Universe
  u = sheet.universe

  -- the piece of that number
  piece_there : (p : Piece) × (slice_get (pieces sheet) k ≡ Some p) × (number_by sheet.universe (labels_of sheet) (cells_of sheet.universe p) ≡ number)
  piece_there =
      let p = item (pieces sheet) k (let e = length-map (pieces sheet) (cells_of u) in omega (arith, low, e)) in
      let n = number_by u (labels_of sheet) (cells_of u p.0) in
      let here : slice_get pieces_by k ≡ Some n = ap (λ ns. slice_get ns k) has.each_piece ∙ mapped (number_by u (labels_of sheet)) (map (cells_of u) (pieces sheet)) k (cells_of u p.0) (mapped (cells_of u) (pieces sheet) k p.0 p.1) in
      (p.0, p.1, sym (at ∙ get_or_from_slice_get pieces_by k n number here))

  -- and its part
  part_there : (part : Part) × (slice_get (parts_of sheet) number ≡ Some part) × Contains (parts_of sheet) part × Contains part.pieces piece_there.0
  part_there =
      let p = piece_there in
      let listed = slice_in (pieces sheet) k p.0 p.1 in
      let r = (parts_are_a_division sheet (parts_of sheet) formed (parts_are_found sheet formed)).every_piece p.0 listed in
      let j = place_of (parts_of sheet) r.0 r.1 in
      let same : j.0 ≡ number = sym ((pieces_at sheet formed p.0 listed j.0 r.0 j.1).1 r.2) ∙ p.2 in
      (r.0, subst (λ i. slice_get (parts_of sheet) i ≡ Some r.0) same j.1, r.1, r.2)

  pub piece_part : (n : ℕ) (cells axioms used : List ℕ) (kept_cells : List CellId) (own : List Var) → n ≡ variable_count sheet → cells ≡ places_from 0 (map alone cells_by) number → axioms ≡ places_from 0 (owners_by sheet (labels_of sheet)) number
      → used ≡ places_from 0 (turned n (variables_in (clauses sheet) axioms ∷ [])) 0 → map number_of kept_cells ≡ cells → map variable_number own ≡ used → IsPartOfPiece sheet k kept_cells own
  piece_part n cells axioms used kept_cells own n_is cells_are axioms_are used_is kept_is own_is =
      let p = piece_there in
      let part = part_there in
      record {
        piece = p.0;
        piece_is = p.1;
        part = part.0;
        there = part.2;
        has = part.3;
        cells_are = kept_is ∙ cells_are ∙ part_of_number sheet formed cells_by has.cells number part.0 part.1;
        axioms = axioms;
        axioms_are = subst (AreAxiomsOf sheet part.0) (sym axioms_are) (axioms_right sheet formed number part.0 part.1);
        own_are = subst (AreVariablesOf (clauses sheet) axioms) (sym (own_is ∙ used_is)) (variables_right sheet (axioms ∷ []) n 0 axioms n_is refl);
      }
