-- Whether a formula has a counting quantifier.
use Rattle.std.specs.Prelude.{Bool, true, false, ◌||◌}
use Rattle.pc_formula.specs.Tree.{Formula, for_all, exists, counting, iff, implies, or, and, not, compare, in_table, Formulas, no_part, part}

abbrev mutual
  -- a counting quantifier stands in the formula
  pub has_count : Formula → Bool
  has_count (for_all n s f) = has_count f
  has_count (exists n s f) = has_count f
  has_count (counting m k n s f) = true
  has_count (iff f g) = has_count f || has_count g
  has_count (implies f g) = has_count f || has_count g
  has_count (or fs) = have_count fs
  has_count (and fs) = have_count fs
  has_count (not f) = has_count f
  has_count (compare left op right) = false
  has_count (in_table n args) = false

  -- in one of the parts
  pub have_count : Formulas → Bool
  have_count no_part = false
  have_count (part f fs) = has_count f || have_count fs
