-- A walk from cell to cell over rows of cells, which gives all that it reaches one label.
use Rattle.std.specs.Prelude.{◌≡◌, ◌≢◌, ℕ, zero, suc, ◌<◌, ◌≤◌, ◌⊎◌, ◌==◌, ◌&&◌, Bool, true, false, cond, nat_lt, List, [], ◌∷◌, ◌++◌, length, slice_index_or, slice_set, Some, slice_get, Contains}
use Rattle.pc_parts.specs.Components.{label_of}
use Rattle.pc_components.specs.Labels.{IsTiedBy}

-- A label for each cell, which is the count of cells where it has none yet; the labeled cells that the walk hasn't gone on from; and for each row whether the walk went over it.
pub record Traversal : Type 0 where
  pub labels : List ℕ
  pub frontier : List ℕ
  pub visited : List Bool

abbrev pub is_open : List ℕ → ℕ → Bool
is_open labels c = nat_lt c (length labels) && (slice_index_or labels c 0 == length labels)

-- a cell without a label gets that one
abbrev pub reached : ℕ → ℕ → Traversal → Traversal
reached label c t = cond (is_open t.labels c) (record { labels = slice_set t.labels c label; frontier = t.frontier ++ c ∷ []; visited = t.visited }) t

abbrev pub all_reached : ℕ → List ℕ → Traversal → Traversal
all_reached label [] t = t
all_reached label (c ∷ cs) t = all_reached label cs (reached label c t)

abbrev pub marked : ℕ → Traversal → Traversal
marked j t = record { labels = t.labels; frontier = t.frontier; visited = slice_set t.visited j true }

-- all cells of a row, which has that place, where the walk didn't go over it
abbrev pub row_visited : ℕ → ℕ → List ℕ → Traversal → Traversal
row_visited label j row t = cond (slice_index_or t.visited j true) t (marked j (all_reached label row t))

-- of the rows at these places
abbrev pub rows_visited : ℕ → List (List ℕ) → List ℕ → Traversal → Traversal
rows_visited label rows [] t = t
rows_visited label rows (j ∷ js) t = rows_visited label rows js (row_visited label j (slice_index_or rows j []) t)

-- how many have no label
abbrev pub open_count : ℕ → List ℕ → ℕ
open_count n [] = zero
open_count n (l ∷ ls) = cond (l == n) (suc (open_count n ls)) (open_count n ls)

-- ---- what is so all along the walk

abbrev pub HasLabel : List ℕ → ℕ → Type 0
HasLabel labels c = label_of labels c ≢ length labels

abbrev pub IsVisited : List Bool → ℕ → Type 0
IsVisited visited j = slice_index_or visited j false ≡ true

-- the walk went over each row that has the cell
abbrev pub IsDone : List (List ℕ) → Traversal → ℕ → Type 0
IsDone rows t c = (j : ℕ) (row : List ℕ) → slice_get rows j ≡ Some row → Contains row c → IsVisited t.visited j

-- Of n cells those before the k-th have a label; a label is no later than its cell, and chained to it; the cells of the frontier, and those in hand, have the label in hand; the walk is
-- done with the other labeled cells; and the cells of a visited row have one label.
pub record IsTraversal (rows : List (List ℕ)) (n k label : ℕ) (InHand : ℕ → Type 0) (t : Traversal) : Type 0 where
  pub count : length t.labels ≡ n
  pub many : length t.visited ≡ length rows
  pub earlier : (c : ℕ) → c < k → HasLabel t.labels c
  pub right : (c : ℕ) → c < n → HasLabel t.labels c → (label_of t.labels c ≤ c) × (chain : List ℕ) × IsTiedBy rows c chain (label_of t.labels c)
  pub ahead : (c : ℕ) → Contains t.frontier c ⊎ InHand c → (c < n) × (label_of t.labels c ≡ label)
  pub done : (c : ℕ) → c < n → HasLabel t.labels c → (Contains t.frontier c ⊎ InHand c) ⊎ IsDone rows t c
  pub same : (j : ℕ) (row : List ℕ) → slice_get rows j ≡ Some row → IsVisited t.visited j → (c : ℕ) → Contains row c → (d : ℕ) → Contains row d → HasLabel t.labels c × (label_of t.labels c ≡ label_of t.labels d)

abbrev pub Nothing : ℕ → Type 0
Nothing c = ⊥
