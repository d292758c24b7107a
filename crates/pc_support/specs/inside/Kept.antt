-- Assignments that were seen, with what they are as models.
use Rattle.std.specs.Prelude.{◌≡◌, ◌≤◌, Bool, List, All, length, map, sum_by}
use Rattle.pc_lits.specs.declared.literal.Var.{Var}
use Rattle.pc_support.specs.declared.seen.Row.{Row}
use Rattle.pc_support.specs.declared.seen.Kept.{Kept}
use Rattle.pc_support.specs.inside.Counters.{ArePlacesIn, IsModelIn}

-- the truth of the watched variables by each row
abbrev pub truths : List Row → List (List Bool)
truths rows = map (λ r. r.truth) rows

-- the rows are few, and their truth values are counted
pub record AreCounted (k : Kept) : Type 0 where
  pub many : length k.rows.items ≤ 16384
  pub few : k.items ≤ 4194304
  pub items : k.items ≡ sum_by length (truths k.rows.items)

-- each model is its row's, by the places of the literals' variables
pub record AreKept (watched : List Var) (k : Kept) : Type 0 where
  pub places : ArePlacesIn k.literals.items watched k.places.items
  pub models : All (λ r. IsModelIn k.places.items r.truth r.model) k.rows.items
  pub counted : AreCounted k
