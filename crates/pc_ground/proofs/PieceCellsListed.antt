-- The cells of the pieces, piece by piece, are those of the list of pieces.
use Rattle.std.proofs.Common.{◌≡◌, ℕ, ◌+◌, List, [], ◌∷◌, ◌++◌, map, refl, ap, sym, ◌∙◌}
use Rattle.std.specs.List.{flat_map}
use Rattle.std.proofs.lemmas.List.{map-append}
use Rattle.pc_sheet.specs.Sheet.{Universe, Sheet, NamedStatement, Statement, Statements, no_statements, statement, compare, in_table, negation, all_of, some_of, implies, iff, for_all, exists, counts}
use Rattle.pc_sheet.specs.Truth.{Scope}
use Rattle.pc_sheet.specs.Sizes.{size_of}
use Rattle.pc_sheet.specs.Cells.{values_below}
use Rattle.pc_sheet.specs.declared.ids.ValueId.{ValueId}
use Rattle.pc_parts.specs.Leaves.{cells_of}
use Rattle.pc_parts.specs.Pieces.{Piece, pieces_below, pieces_of_parts, pieces_from, pieces}
use Rattle.pc_ground.specs.PieceCells.{piece_cells, piece_cells_of_parts, piece_cells_of_rules}

-- a map over what is made from values
map_flat : (f : Piece → List ℕ) (g : ValueId → List Piece) (h : ValueId → List (List ℕ)) → ((v : ValueId) → map f (g v) ≡ h v) → (vs : List ValueId) → map f (flat_map g vs) ≡ flat_map h vs
map_flat f g h e [] = refl
map_flat f g h e (v ∷ vs) = map-append f (g v) (flat_map g vs) ∙ ap (λ xs. xs ++ map f (flat_map g vs)) (e v) ∙ ap (λ xs. h v ++ xs) (map_flat f g h e vs)

module _ (u : Universe) (r : ℕ) where
  mutual
    pub below : (path : List ℕ) (scope : Scope) (s : Statement) → map (cells_of u) (pieces_below u r path scope s) ≡ piece_cells u scope s
    below path scope (compare left op right) = refl
    below path scope (in_table t xs) = refl
    below path scope (negation s) = refl
    below path scope (all_of ss) = of_parts path scope 0 ss
    below path scope (some_of ss) = refl
    below path scope (implies s t) = refl
    below path scope (iff s t) = refl
    below path scope (for_all name s body) =
        map_flat (cells_of u) (λ v. pieces_below u r (path ++ v.0 ∷ []) (scope ++ (s, v) ∷ []) body) (λ v. piece_cells u (scope ++ (s, v) ∷ []) body) (λ v. below (path ++ v.0 ∷ []) (scope ++ (s, v) ∷ []) body) (values_below (size_of u s))
    below path scope (exists name s body) = refl
    below path scope (counts c name s body) = refl

    of_parts : (path : List ℕ) (scope : Scope) (k : ℕ) (ss : Statements) → map (cells_of u) (pieces_of_parts u r path scope k ss) ≡ piece_cells_of_parts u scope ss
    of_parts path scope k no_statements = refl
    of_parts path scope k (statement s ss) =
        map-append (cells_of u) (pieces_below u r (path ++ k ∷ []) scope s) (pieces_of_parts u r path scope (k + 1) ss)
        ∙ ap (λ xs. xs ++ map (cells_of u) (pieces_of_parts u r path scope (k + 1) ss)) (below (path ++ k ∷ []) scope s)
        ∙ ap (λ xs. piece_cells u scope s ++ xs) (of_parts path scope (k + 1) ss)

of_rules : (u : Universe) (r : ℕ) (rules : List NamedStatement) → map (cells_of u) (pieces_from u r rules) ≡ piece_cells_of_rules u rules
of_rules u r [] = refl
of_rules u r (rule ∷ rules) =
    map-append (cells_of u) (pieces_below u r [] [] rule.states) (pieces_from u (r + 1) rules)
    ∙ ap (λ xs. xs ++ map (cells_of u) (pieces_from u (r + 1) rules)) (below u r [] [] rule.states)
    ∙ ap (λ xs. piece_cells u [] rule.states ++ xs) (of_rules u (r + 1) rules)

pub cells_listed : (sheet : Sheet) → piece_cells_of_rules sheet.universe sheet.rules ≡ map (cells_of sheet.universe) (pieces sheet)
cells_listed sheet = sym (of_rules sheet.universe 0 sheet.rules)
