-- Whether some quantifier of a statement counts.
use Rattle.std.specs.Prelude.{Bool, true, false, ◌||◌, List}
use Rattle.std.specs.List.{list_any}
use Rattle.pc_sheet.specs.Sheet.{Statement, Statements, no_statements, statement, compare, in_table, negation, all_of, some_of, implies, iff, for_all, exists, counts, NamedStatement}

abbrev mutual
  pub has_count : Statement → Bool
  has_count (compare left op right) = false
  has_count (in_table t xs) = false
  has_count (negation s) = has_count s
  has_count (all_of ss) = have_count ss
  has_count (some_of ss) = have_count ss
  has_count (implies s t) = has_count s || has_count t
  has_count (iff s t) = has_count s || has_count t
  has_count (for_all name s body) = has_count body
  has_count (exists name s body) = has_count body
  has_count (counts c name s body) = true

  pub have_count : Statements → Bool
  have_count no_statements = false
  have_count (statement s ss) = has_count s || have_count ss

-- a rule does
abbrev pub rule_counts : NamedStatement → Bool
rule_counts r = has_count r.states

-- some rule does
abbrev pub has_counting : List NamedStatement → Bool
has_counting rules = list_any rule_counts rules
