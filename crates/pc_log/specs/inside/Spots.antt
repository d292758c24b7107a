-- The lines of a sparse log by what stands at their places.
use Rattle.std.specs.Prelude.{◌≡◌, ℕ, ◌<◌, ◌≤◌, List, Option, Some, None, All, map, length, slice_get}
use Rattle.pc_log.specs.declared.sparse.Spot.{Spot}
use Rattle.pc_log.specs.declared.sparse.Spot.TheVariants.{Gap, Axiom, Further}
use Rattle.pc_log.specs.Lines.{LogLine, AxiomLine}
use Rattle.pc_log.specs.Sparse.{bytes_there}

-- the line that so stands, where those that are no axioms are these
abbrev pub spot_line : List LogLine → Spot → Option LogLine
spot_line further Gap = None
spot_line further (Axiom number) = Some (AxiomLine number)
spot_line further (Further number) = slice_get further number

abbrev pub spotted : List LogLine → List Spot → List (Option LogLine)
spotted further spots = map (spot_line further) spots

-- a further line's number is one of so many
abbrev pub IsSpot : ℕ → Spot → Type 0
IsSpot count Gap = Unit {0}
IsSpot count (Axiom number) = Unit {0}
IsSpot count (Further number) = number < count

pub record AreSpots (further : List LogLine) (spots : List Spot) (bytes : ℕ) : Type 0 where
  pub are : All (IsSpot (length further)) spots
  pub sized : bytes ≡ bytes_there (spotted further spots)

-- a spot for this line, where the further lines begin with the old ones
pub record AddsSpot (line : LogLine) (old new : List LogLine) (spot : Spot) : Type 0 where
  pub is : IsSpot (length new) spot
  pub stands : spot_line new spot ≡ Some line
  pub keeps : (n : ℕ) → n < length old → slice_get new n ≡ slice_get old n
  pub grows : length old ≤ length new
