-- The numbers of the parts of cells and pieces, as the code finds them from the labels.
use Rattle.std.specs.Prelude.{◌≡◌, ℕ, ◌<◌, ◌≤◌, cond, List, [], ◌∷◌, length, slice_index_or}
use Rattle.std.specs.List.{filter, range_with_len}
use Rattle.pc_parts.specs.Components.{label_of, is_labeled, are_no_cells}

-- a label is no later than its number, and its own label
pub record AreOwn (labels : List ℕ) : Type 0 where
  pub least : (c : ℕ) → c < length labels → label_of labels c ≤ c
  pub own : (c : ℕ) → c < length labels → label_of labels (label_of labels c) ≡ label_of labels c

-- the numbers that are their own label
abbrev pub own_firsts : List ℕ → List ℕ
own_firsts labels = filter (λ c. is_labeled labels c c) (range_with_len 0 (length labels))

-- of a piece that reads these cells, by the numbers of the cells' parts: that of the first, or the last
abbrev pub piece_number : List ℕ → ℕ → List ℕ → ℕ
piece_number numbers last [] = last
piece_number numbers last (c ∷ cs) = slice_index_or numbers c 0

-- one for the last part where some piece reads no cell
abbrev pub last_count : List (List ℕ) → ℕ
last_count [] = 0
last_count (row ∷ rows) = cond (are_no_cells row) 1 (last_count rows)

abbrev pub alone : ℕ → List ℕ
alone n = n ∷ []
