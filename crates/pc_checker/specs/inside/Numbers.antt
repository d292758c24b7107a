-- Numbers from 1, and the places from 0 that they mean.
use Rattle.std.specs.Prelude.{ℕ, ◌≤◌, ◌-◌, List, map}

abbrev pub IsNumberUpTo : ℕ → ℕ → Type 0
IsNumberUpTo most n = (1 ≤ n) × (n ≤ most)

abbrev pub places_of : List ℕ → List ℕ
places_of numbers = map (λ n. n - 1) numbers
