-- How many words of a formula's shortest text let it nest: opening parentheses, `!`, `->` and the words of quantifiers.
use Rattle.std.specs.Prelude.{ℕ, ◌+◌, nat_lt, sum_by, cond}
use Rattle.pc_name.specs.declared.sign.Sign.{Sign}
use Rattle.pc_formula.specs.Tree.{Item, integer, named, Items, no_item, one_item, items_of, Side, Formula, for_all, exists, counting, iff, implies, or, and, not, compare, in_table, Formulas, no_part, part}

-- arguments open one parenthesis
abbrev mutual
  pub nesting_of_item : Item → ℕ
  nesting_of_item (integer z) = 0
  nesting_of_item (named n no_item) = 0
  nesting_of_item (named n (one_item i more)) = 1 + nesting_of_item i + nesting_of_items more

  pub nesting_of_items : Items → ℕ
  nesting_of_items no_item = 0
  nesting_of_items (one_item i more) = nesting_of_item i + nesting_of_items more

abbrev pub nesting_of_added : Sign × Item → ℕ
nesting_of_added x = nesting_of_item x.1

abbrev pub nesting_of_side : Side → ℕ
nesting_of_side s = nesting_of_item s.first + sum_by nesting_of_added s.rest

-- how tightly a formula binds: a quantifier least, then `<->`, `->`, `|`, `&`, and then what needs no parentheses
abbrev pub tightness : Formula → ℕ
tightness (compare left op right) = 5
tightness (in_table n args) = 5
tightness (not f) = 5
tightness (and fs) = 4
tightness (or fs) = 3
tightness (implies f g) = 2
tightness (iff f g) = 1
tightness (for_all n s f) = 0
tightness (exists n s f) = 0
tightness (counting m k n s f) = 0

-- one parenthesis where a formula binds less tightly than its place asks
abbrev pub parentheses : ℕ → Formula → ℕ
parentheses asked f = cond (nat_lt (tightness f) asked) 1 0

abbrev mutual
  pub nesting_of : Formula → ℕ
  nesting_of (compare left op right) = nesting_of_side left + nesting_of_side right
  nesting_of (in_table n args) = 1 + nesting_of_items (items_of args)
  nesting_of (not f) = 1 + parentheses 5 f + nesting_of f
  nesting_of (and fs) = nesting_of_parts 5 fs
  nesting_of (or fs) = nesting_of_parts 4 fs
  nesting_of (implies f g) = 1 + parentheses 3 f + nesting_of f + (parentheses 2 g + nesting_of g)
  nesting_of (iff f g) = parentheses 2 f + nesting_of f + (parentheses 2 g + nesting_of g)
  nesting_of (for_all n s f) = 1 + nesting_of f
  nesting_of (exists n s f) = 1 + nesting_of f
  nesting_of (counting m k n s f) = 1 + nesting_of f

  pub nesting_of_parts : ℕ → Formulas → ℕ
  nesting_of_parts asked no_part = 0
  nesting_of_parts asked (part f fs) = parentheses asked f + nesting_of f + nesting_of_parts asked fs
