-- Labels of numbers that rows tie together: the label of a number is the least that is tied to it.
use Rattle.std.specs.Prelude.{◌≡◌, ℕ, ◌<◌, ◌≤◌, List, [], ◌∷◌, length, Contains}
use Rattle.pc_parts.specs.Components.{label_of}

-- some row has both
abbrev pub AreTied : List (List ℕ) → ℕ → ℕ → Type 0
AreTied rows c d = (row : List ℕ) × Contains rows row × Contains row c × Contains row d

-- from one by these, each tied to the one before, to the other
abbrev pub IsTiedBy : List (List ℕ) → ℕ → List ℕ → ℕ → Type 0
IsTiedBy rows c [] d = c ≡ d
IsTiedBy rows c (m ∷ ms) d = AreTied rows c m × IsTiedBy rows m ms d

-- of each number below n a label that is no greater and chained to it; the numbers of a row have one label
pub record AreLabels (rows : List (List ℕ)) (n : ℕ) (labels : List ℕ) : Type 0 where
  pub count : length labels ≡ n
  pub tied : (c : ℕ) → c < n → (chain : List ℕ) × IsTiedBy rows c chain (label_of labels c)
  pub least : (c : ℕ) → c < n → label_of labels c ≤ c
  pub same : (row : List ℕ) → Contains rows row → (c : ℕ) → Contains row c → (d : ℕ) → Contains row d → label_of labels c ≡ label_of labels d
