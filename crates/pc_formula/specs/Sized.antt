-- How many parts formulas have.
use Rattle.std.specs.Prelude.{ℕ, ◌+◌, ◌<◌, ◌≤◌, length}
use Rattle.pc_formula.specs.Tree.{Side, Formula, for_all, exists, counting, iff, implies, or, and, not, compare, in_table, Formulas, no_part, part}

-- how many formulas these are
abbrev pub count_parts : Formulas → ℕ
count_parts no_part = 0
count_parts (part f fs) = count_parts fs + 1

-- a side has fewer items than this, and an `and` or `or` fewer parts
abbrev pub too_many : ℕ
too_many = 4194304

-- a side whose items are not too many
abbrev pub IsSizedSide : Side → Type 0
IsSizedSide s = length s.rest + 1 < too_many

-- each `and` and `or` has two or more parts, and these and the items of each side are not too many
abbrev mutual
  pub IsSized : Formula → Type 0
  IsSized (for_all n s f) = IsSized f
  IsSized (exists n s f) = IsSized f
  IsSized (counting m k n s f) = IsSized f
  IsSized (iff f g) = IsSized f × IsSized g
  IsSized (implies f g) = IsSized f × IsSized g
  IsSized (or fs) = (2 ≤ count_parts fs) × (count_parts fs < too_many) × AreSized fs
  IsSized (and fs) = (2 ≤ count_parts fs) × (count_parts fs < too_many) × AreSized fs
  IsSized (not f) = IsSized f
  IsSized (compare l op r) = IsSizedSide l × IsSizedSide r
  IsSized (in_table n args) = Unit {0}

  -- the same of each part
  pub AreSized : Formulas → Type 0
  AreSized no_part = Unit {0}
  AreSized (part f fs) = IsSized f × AreSized fs
