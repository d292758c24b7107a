-- Certificates against a rule, and of sets where there is one set or none.
use Rattle.std.specs.Prelude.{ℕ, List, [], ◌∷◌}
use Rattle.pc_sheet.specs.declared.ids.Entry.{Entry}
use Rattle.pc_laws.specs.Examples.{red, green, entry, target, equal_cells, is_color, chain}
use Rattle.pc_accept.specs.Axioms.{axiom_some, axiom_rule, axiom_node, axiom_atom, negated_entry}
use Rattle.pc_accept.specs.Accepts.{repairs, unimplied, against, Line, taken, derived, blocked, Certificate, Accepts}
use Rattle.pc_accept.specs.SetExamples.{two_ends, red_set, green_set, of_sets}
use Rattle.pc_accept.specs.Sets.{GivenSet}
use Rattle.pc_accept.specs.Laws.{AreAgainst}
use Rattle.pc_accept.specs.Worked.{never, refuting}
use Rattle.pc_accept.specs.Asked.{asked}

-- against the rule of that number
abbrev pub of_rule : ℕ → List Entry → List Entry → List Line → Certificate
of_rule r uses values lines = record { claim = against r; sets = []; uses = uses; values = values; lines = lines }

-- ---- where a = b and b = c, a = red and c = green are entered: with the one rule they are against the other

abbrev pub ends : List Entry
ends = entry 0 red ∷ entry 2 green ∷ []

-- b isn't green, since a is red, and so is red, against the second rule
abbrev pub ends_denied : List Line
ends_denied =
    taken (axiom_rule 0) ∷ taken (axiom_rule 1) ∷ taken (axiom_atom 0 [] (entry 0 red ∷ entry 1 green ∷ [])) ∷ taken (axiom_atom 1 [] (entry 1 red ∷ entry 2 green ∷ []))
    ∷ taken (axiom_some (record { 0 = 1 })) ∷ derived (negated_entry (entry 0 red) ∷ negated_entry (entry 2 green) ∷ []) (0 ∷ 2 ∷ 4 ∷ 1 ∷ 3 ∷ []) ∷ []

-- the first rule is true, or the second
abbrev pub first_equal : List Entry
first_equal = entry 0 red ∷ entry 1 red ∷ entry 2 green ∷ []

abbrev pub last_equal : List Entry
last_equal = entry 0 red ∷ entry 1 green ∷ entry 2 green ∷ []

-- ---- b = red asked where a = b, and a = red is entered: its negation is the second rule

-- a = red: the formula's negation makes b = red false, so b is green, against the first rule
abbrev pub answering : List Line
answering =
    taken (axiom_rule 0) ∷ taken (axiom_rule 1) ∷ taken (axiom_node 1 [] 1) ∷ taken (axiom_atom 1 (0 ∷ []) (entry 1 red ∷ [])) ∷ taken (axiom_some (record { 0 = 1 }))
    ∷ taken (axiom_atom 0 [] (entry 0 red ∷ entry 1 green ∷ [])) ∷ derived (negated_entry (entry 0 red) ∷ []) (1 ∷ 2 ∷ 3 ∷ 4 ∷ 0 ∷ 5 ∷ []) ∷ []

pub record WorkedAgainst : Type 0 where
  -- of each rule by an assignment that makes the other one true
  pub of_second : Accepts two_ends (of_rule 1 ends first_equal ends_denied)
  pub of_first : Accepts two_ends (of_rule 0 ends last_equal ends_denied)
  -- it breaks the other one
  pub other_broken : (lines : List Line) → ¬ Accepts two_ends (of_rule 1 ends last_equal lines)
  -- it lacks a used entry
  pub use_not_held : (lines : List Line) → ¬ Accepts two_ends (of_rule 1 ends (entry 0 red ∷ entry 1 red ∷ entry 2 red ∷ []) lines)
  -- there is no third rule
  pub no_rule : (lines : List Line) → ¬ Accepts two_ends (of_rule 2 ends first_equal lines)
  -- b = red isn't entered
  pub not_entered : (lines : List Line) → ¬ Accepts two_ends (of_rule 1 (entry 1 red ∷ entry 2 green ∷ []) first_equal lines)
  -- the one entry alone isn't against it
  pub unused : (lines : List Line) → ¬ Accepts two_ends (of_rule 1 (entry 0 red ∷ []) first_equal lines)
  -- nothing is derived, or but an axiom
  pub no_line : ¬ Accepts two_ends (of_rule 1 ends first_equal [])
  pub unfinished : ¬ Accepts two_ends (of_rule 1 ends first_equal (taken (axiom_rule 1) ∷ []))
  -- of an asked formula
  pub answered : Accepts (asked equal_cells (is_color 1 red)) (of_rule 1 (entry 0 red ∷ []) (entry 0 red ∷ entry 1 red ∷ []) answering)
  -- no derivation makes the other entry its reason, nor none
  pub by_other : (lines : List Line) → ¬ Accepts (asked equal_cells (is_color 1 red)) (of_rule 1 (entry 1 green ∷ []) (entry 0 green ∷ entry 1 green ∷ []) lines)
  pub by_none : (lines : List Line) → ¬ Accepts (asked equal_cells (is_color 1 red)) (of_rule 1 [] (entry 0 red ∷ entry 1 red ∷ []) lines)

pub record WorkedOpposed : Type 0 where
  pub both_ends : AreAgainst two_ends 1 ends
  -- b and c may be red too
  pub one_end : ¬ AreAgainst two_ends 1 (entry 0 red ∷ [])
  -- no assignment has two values of one cell, so that none makes the rule false either
  pub of_none : ¬ AreAgainst two_ends 1 (entry 0 red ∷ entry 0 green ∷ [])

-- ---- sets: where all entries are consistent they are the one, and where the rules aren't there is none

pub record WorkedFewSets : Type 0 where
  -- a = red alone: b isn't implied green, as the set's assignment shows
  pub one : Accepts (chain (entry 0 red ∷ [])) (of_sets (unimplied (target 1 green)) (red_set ∷ []) (blocked 0 ∷ []))
  pub one_barred : (lines : List Line) → ¬ Accepts (chain (entry 0 red ∷ [])) (of_sets (unimplied (target 1 red)) (red_set ∷ []) lines)
  -- the one rule says red = green
  pub none : Accepts never (of_sets repairs [] refuting)
  pub nothing_implied : Accepts never (of_sets (unimplied (target 0 red)) [] refuting)
  -- the rules are consistent, so some set is maximal
  pub none_left_out : (lines : List Line) → ¬ Accepts two_ends (of_sets repairs [] lines)

-- a = red without a use
abbrev pub no_uses : GivenSet
no_uses = record { uses = []; values = red_set.values }

pub record WorkedWithin : Type 0 where
  -- what lies within another set isn't maximal, whichever of the two is given first
  pub behind : (lines : List Line) → ¬ Accepts two_ends (of_sets repairs (red_set ∷ green_set ∷ no_uses ∷ []) lines)
  pub before : (lines : List Line) → ¬ Accepts two_ends (of_sets repairs (no_uses ∷ red_set ∷ green_set ∷ []) lines)
