-- The first cells of cells' parts, by the parts' cells and the number of each cell's part.
use Rattle.std.specs.Prelude.{ℕ, List, [], map, slice_index_or}

-- of the row of that number
abbrev pub first_by : List (List ℕ) → ℕ → ℕ
first_by rows number = slice_index_or (slice_index_or rows number []) 0 0

abbrev pub firsts_by_number : List (List ℕ) → List ℕ → List ℕ
firsts_by_number rows numbers = map (first_by rows) numbers
