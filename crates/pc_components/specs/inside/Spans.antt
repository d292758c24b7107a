-- The numbers of a span's groups.
use Rattle.std.specs.Prelude.{ℕ, ◌+◌, ◌≤◌, List, [], ◌∷◌, take, drop}
use Rattle.pc_ground.specs.declared.owners.Span.{Span}

-- of the numbers of all groups
abbrev pub row_of : List ℕ → Span → List ℕ
row_of ns s = take s.count (drop s.first ns)

-- each is of the first n groups
abbrev pub AreWithin : ℕ → List Span → Type 0
AreWithin n [] = Unit {0}
AreWithin n (s ∷ ss) = (s.first + s.count ≤ n) × AreWithin n ss
