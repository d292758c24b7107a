-- The numbers that are found from the labels are those of the parts, and with them the walk gives each axiom its owners.
use Rattle.std.proofs.Common.{◌≡◌, ℕ, zero, suc, ◌+◌, ◌<◌, take, drop, Bool, true, false, cond, List, [], ◌∷◌, ◌++◌, map, length, get_or, refl, ap, sym, ◌∙◌, arith}
use Rattle.std.specs.List.{filter, flat_map, range_with_len}
use Rattle.std.proofs.lemmas.List.{length-append, length-map, map-append}
use Rattle.std.proofs.lemmas.List.FromFn.{length-range_with_len, get_or-map-range_with_len}
use Rattle.pc_sheet.specs.Sheet.{Universe, Sheet}
use Rattle.pc_sheet.specs.Entailment.{cell_sizes}
use Rattle.pc_sheet.specs.WellFormed.{IsWellFormed}
use Rattle.pc_parts.specs.Components.{label_of, all_relabeled, relabeled, renamed, all_cells, pairs_of, labels_of, is_labeled, are_no_cells, part_of_first, parts_of}
use Rattle.pc_parts.specs.Leaves.{cells_of}
use Rattle.pc_parts.specs.Parts.{cell_count, part_without_cells}
use Rattle.pc_parts.specs.Pieces.{Piece, pieces}
use Rattle.pc_components.specs.inside.Numbers.{own_firsts, piece_number, last_count}
use Rattle.pc_components.specs.inside.Owners.{firsts_by, place_in, cell_number_by, number_by, owners_by, owners_of_cells}
use Rattle.pc_components.specs.inside.PartNumbers.{HasNumbers}
use Rattle.pc_ground.specs.PieceCells.{piece_cells_of_rules}
use Rattle.pc_ground.specs.Owners.{span, piece_count_of_rules, cells_spans, spans_of_rules, owners_of}
use Rattle.pc_components.specs.inside.Spans.{row_of, AreWithin}
use Rattle.pc_components.specs.inside.Within.{AreAllBelow}
use Rattle.pc_ground.proofs.PieceCellsListed.{cells_listed}
use Rattle.pc_components.proofs.RowsWithin.{rows_within}
use Rattle.pc_components.proofs.SpansRight.{rules_counted, drop_front, number_there, rules_read, cells_read, all_within}

-- ---- lists

all_length : (xs : List (List ℕ)) (labels : List ℕ) → length (all_relabeled xs labels) ≡ length labels
all_length [] labels = refl
all_length (cells ∷ more) labels = all_length more (relabeled cells labels) ∙ length-map labels (renamed (map (label_of labels) cells))

pub labels_length : (sheet : Sheet) → length (labels_of sheet) ≡ cell_count sheet.universe
labels_length sheet = all_length (flat_map pairs_of (map (cells_of sheet.universe) (pieces sheet))) (all_cells sheet.universe) ∙ length-range_with_len 0 (cell_count sheet.universe)

shifted : {X : Type 0} (h : ℕ → X) (a n : ℕ) → map h (range_with_len (suc a) n) ≡ map (λ c. h (suc c)) (range_with_len a n)
shifted h a zero = refl
shifted h a (suc n) = let e : suc a + 1 ≡ suc (a + 1) = omega arith in ap (λ xs. h (suc a) ∷ xs) (ap (λ k. map h (range_with_len k n)) e ∙ shifted h (a + 1) n)

by_place : {X : Type 0} (f : ℕ → X) (xs : List ℕ) → map f xs ≡ map (λ c. f (get_or xs c 0)) (range_with_len 0 (length xs))
by_place f [] = refl
by_place f (x ∷ xs) = ap (λ ys. f x ∷ ys) (by_place f xs ∙ sym (shifted (λ c. f (get_or (x ∷ xs) c 0)) 0 (length xs)))

-- ---- numbers

pieces_numbered : (u : Universe) (labels cells_by : List ℕ) (last n : ℕ) → cells_by ≡ map (cell_number_by u labels) (range_with_len 0 n) → last ≡ length (firsts_by u labels)
    → (rows : List (List ℕ)) → AreAllBelow n rows → map (piece_number cells_by last) rows ≡ map (number_by u labels) rows
pieces_numbered u labels cells_by last n is e [] h = refl
pieces_numbered u labels cells_by last n is e ([] ∷ rows) h = ap (λ i. i ∷ map (piece_number cells_by last) rows) e ∙ ap (λ ns. length (firsts_by u labels) ∷ ns) (pieces_numbered u labels cells_by last n is e rows h.1)
pieces_numbered u labels cells_by last n is e ((c ∷ cs) ∷ rows) h =
    let here : get_or cells_by c 0 ≡ cell_number_by u labels c = ap (λ ns. get_or ns c 0) is ∙ get_or-map-range_with_len (cell_number_by u labels) 0 n c c 0 h.0.0 (omega arith) in
    ap (λ i. i ∷ map (piece_number cells_by last) rows) here ∙ ap (λ ns. cell_number_by u labels c ∷ ns) (pieces_numbered u labels cells_by last n is e rows h.1)

last_counted : (u : Universe) (ps : List Piece) → length (part_without_cells (filter (λ p. are_no_cells (cells_of u p)) ps)) ≡ last_count (map (cells_of u) ps)
last_counted u [] = refl
last_counted u (p ∷ ps) = by (are_no_cells (cells_of u p)) (last_counted u ps)
  where
    by : (b : Bool) → length (part_without_cells (filter (λ q. are_no_cells (cells_of u q)) ps)) ≡ last_count (map (cells_of u) ps)
        → length (part_without_cells (cond b (p ∷ filter (λ q. are_no_cells (cells_of u q)) ps) (filter (λ q. are_no_cells (cells_of u q)) ps))) ≡ cond b 1 (last_count (map (cells_of u) ps))
    by true e = refl
    by false e = e

module _ (sheet : Sheet) where
  abbrev u : Universe
  u = sheet.universe

  abbrev labels : List ℕ
  labels = labels_of sheet

  firsts_are : own_firsts labels ≡ firsts_by u labels
  firsts_are = ap (λ n. filter (λ c. is_labeled labels c c) (range_with_len 0 n)) (labels_length sheet)

  parts_counted : length (parts_of sheet) ≡ length (firsts_by u labels) + last_count (map (cells_of u) (pieces sheet))
  parts_counted =
      let a = length-append (map (part_of_first sheet labels) (firsts_by u labels)) (part_without_cells (filter (λ p. are_no_cells (cells_of u p)) (pieces sheet))) in
      let b = length-map (firsts_by u labels) (part_of_first sheet labels) in
      let c = last_counted u (pieces sheet) in
      omega (arith, a, b, c)

  pub numbers_right : IsWellFormed sheet → (rows : List (List ℕ)) (ls firsts cells_by pieces_by : List ℕ) (count last : ℕ) → rows ≡ map (cells_of u) (pieces sheet) → ls ≡ labels → firsts ≡ own_firsts ls → cells_by ≡ map (place_in firsts) ls
      → last ≡ length firsts → pieces_by ≡ map (piece_number cells_by last) rows → count ≡ last + last_count rows → HasNumbers sheet count cells_by pieces_by
  numbers_right formed rows ls firsts cells_by pieces_by count last rows_is ls_is firsts_is cells_is last_is pieces_is count_is =
      let fs : firsts ≡ firsts_by u labels = firsts_is ∙ ap own_firsts ls_is ∙ firsts_are in
      let many : last ≡ length (firsts_by u labels) = last_is ∙ ap length fs in
      let cells : cells_by ≡ map (cell_number_by u labels) (all_cells u) =
      cells_is ∙ ap (map (place_in firsts)) ls_is ∙ ap (λ xs. map (place_in xs) labels) fs ∙ by_place (place_in (firsts_by u labels)) labels
      ∙ ap (λ n. map (cell_number_by u labels) (range_with_len 0 n)) (labels_length sheet) in
      record {
        parts = count_is ∙ ap (λ k. k + last_count rows) many ∙ ap (λ rs. length (firsts_by u labels) + last_count rs) rows_is ∙ sym parts_counted;
        cells = cells;
        each_piece =
            pieces_is ∙ ap (map (piece_number cells_by last)) rows_is ∙ pieces_numbered u labels cells_by last (cell_count u) cells many (map (cells_of u) (pieces sheet)) (rows_within sheet formed);
      }

  module _ (count : ℕ) (cells_by pieces_by : List ℕ) (has : HasNumbers sheet count cells_by pieces_by) where
    pub many_cells : length cells_by ≡ length (cell_sizes u)
    many_cells = ap length has.cells ∙ length-map (all_cells u) (cell_number_by u labels) ∙ length-range_with_len 0 (cell_count u)

    listed : pieces_by ≡ map (number_by u labels) (piece_cells_of_rules u sheet.rules)
    listed = has.each_piece ∙ ap (map (number_by u labels)) (sym (cells_listed sheet))

    pub many_pieces : length pieces_by ≡ piece_count_of_rules u sheet.rules
    many_pieces = ap length listed ∙ length-map (piece_cells_of_rules u sheet.rules) (number_by u labels) ∙ rules_counted u sheet.rules

    -- the numbers of the cells' parts and then of the pieces'
    module _ (ns : List ℕ) (so : ns ≡ cells_by ++ pieces_by) where
      pub spans_within : AreWithin (length ns) (owners_of sheet)
      spans_within =
          let a = ap length so ∙ length-append cells_by pieces_by in
          let b = many_cells in
          let c = many_pieces in
          all_within (length ns) u (cell_sizes u) sheet.rules (omega (arith, a, b, c))

      cell_there : (c : ℕ) → c < 0 + length (cell_sizes u) → row_of ns (span c 1) ≡ cell_number_by u labels c ∷ []
      cell_there c l =
          let e : 0 + c ≡ c = omega arith in
          ap (λ xs. take 1 (drop c xs)) (so ∙ ap (λ xs. xs ++ pieces_by) has.cells) ∙ number_there (cell_number_by u labels) 0 (cell_count u) c pieces_by (omega (arith, l)) ∙ ap (λ k. cell_number_by u labels k ∷ []) e

      pieces_there : drop (length (cell_sizes u)) ns ≡ map (number_by u labels) (piece_cells_of_rules u sheet.rules)
      pieces_there = ap (drop (length (cell_sizes u))) so ∙ ap (λ k. drop k (cells_by ++ pieces_by)) (sym many_cells) ∙ drop_front cells_by pieces_by ∙ listed

      pub owners_right : map (row_of ns) (owners_of sheet) ≡ owners_by sheet labels
      owners_right =
          map-append (row_of ns) (cells_spans 0 (cell_sizes u)) (spans_of_rules u (length (cell_sizes u)) 0 sheet.rules)
          ∙ ap (λ rs. rs ++ map (row_of ns) (spans_of_rules u (length (cell_sizes u)) 0 sheet.rules)) (cells_read u (number_by u labels) ns (cell_number_by u labels) 0 (cell_sizes u) cell_there)
          ∙ ap (λ rs. owners_of_cells (cell_number_by u labels) 0 (cell_sizes u) ++ rs) (rules_read u (number_by u labels) ns 0 sheet.rules (length (cell_sizes u)) pieces_there)
