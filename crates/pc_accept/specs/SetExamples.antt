-- Certificates of the maximal sets of a small sheet.
use Rattle.std.specs.Prelude.{List, [], ◌∷◌}
use Rattle.pc_sheet.specs.Sheet.{Sheet}
use Rattle.pc_sheet.specs.declared.ids.Entry.{Entry}
use Rattle.pc_sheet.specs.declared.ids.ValueId.{ValueId}
use Rattle.pc_laws.specs.Examples.{red, green, entry, target, chain}
use Rattle.pc_accept.specs.Axioms.{axiom_some, axiom_one, axiom_rule, axiom_atom}
use Rattle.pc_accept.specs.Sets.{GivenSet}
use Rattle.pc_accept.specs.Accepts.{Claim, repairs, unimplied, Line, taken, derived, blocked, Certificate, Accepts}

-- a = b and b = c; a = red and c = green are entered, so that each is a maximal set
abbrev pub two_ends : Sheet
two_ends = chain (entry 0 red ∷ entry 2 green ∷ [])

-- the set of the entry, with all three cells of its color
abbrev pub set_of : Entry → ValueId → GivenSet
set_of e v = record { uses = e ∷ []; values = entry 0 v ∷ entry 1 v ∷ entry 2 v ∷ [] }

abbrev pub red_set : GivenSet
red_set = set_of (entry 0 red) red

abbrev pub green_set : GivenSet
green_set = set_of (entry 2 green) green

-- an assignment that lies in neither set has both entries: then b isn't green and so is red, against the second rule
abbrev pub neither : List Line
neither =
    taken (axiom_rule 0) ∷ taken (axiom_rule 1) ∷ blocked 0 ∷ blocked 1 ∷ taken (axiom_atom 0 [] (entry 0 red ∷ entry 1 green ∷ []))
    ∷ taken (axiom_atom 1 [] (entry 1 red ∷ entry 2 green ∷ [])) ∷ taken (axiom_some (record { 0 = 1 })) ∷ derived [] (2 ∷ 3 ∷ 0 ∷ 4 ∷ 6 ∷ 1 ∷ 5 ∷ []) ∷ []

-- a = red and a = green are entered, two values of one cell, so that each is a maximal set
abbrev pub two_values : Sheet
two_values = chain (entry 0 red ∷ entry 0 green ∷ [])

abbrev pub other_set : GivenSet
other_set = set_of (entry 0 green) green

-- an assignment that lies in neither set gives the cell both values
abbrev pub not_both : List Line
not_both = blocked 0 ∷ blocked 1 ∷ taken (axiom_one (record { 0 = 0 }) red green) ∷ derived [] (0 ∷ 1 ∷ 2 ∷ []) ∷ []

abbrev pub of_sets : Claim → List GivenSet → List Line → Certificate
of_sets claim sets lines = record { claim = claim; sets = sets; uses = []; values = []; lines = lines }

pub record WorkedSets : Type 0 where
  pub accepted : Accepts two_ends (of_sets repairs (red_set ∷ green_set ∷ []) neither)
  -- sets that differ in the value of one cell
  pub of_one_cell : Accepts two_values (of_sets repairs (red_set ∷ other_set ∷ []) not_both)
  -- b = red is implied, and the first assignment has it
  pub has_value : (lines : List Line) → ¬ Accepts two_ends (of_sets (unimplied (target 1 red)) (red_set ∷ green_set ∷ []) lines)
  -- a set that is given twice
  pub twice : (lines : List Line) → ¬ Accepts two_ends (of_sets repairs (red_set ∷ green_set ∷ red_set ∷ []) lines)
  -- no derivation makes up for a set that is left out
  pub left_out : (lines : List Line) → ¬ Accepts two_ends (of_sets repairs (red_set ∷ []) lines)
  -- a clause of a set that isn't given
  pub no_such_set : ¬ Accepts two_ends (of_sets repairs (red_set ∷ green_set ∷ []) (blocked 2 ∷ []))
