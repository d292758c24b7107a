-- The ways to choose one maximal set of each part, by their numbers.
use Rattle.std.specs.Prelude.{◌≡◌, ℕ, ◌+◌, ◌*◌, ◌<◌, ◌≤◌, List, Some, drop, length, map, slice_get}
use Rattle.pc_sheet.specs.Sizes.{product}
use Rattle.pc_sheet.specs.declared.ids.ValueId.{ValueId}
use Rattle.pc_repairs.specs.inside.Joining.{joined_by, many_sets}
use Rattle.pc_repairs.specs.declared.part_sets.PartSets.{PartSets}

-- no more are gone over
abbrev pub most_tried : ℕ
most_tried = 18446744073709551615

-- The sets of the parts from that place on are laid out by the number, and the rest of the number is of those before.
pub record IsLaidFrom (fitting : List ValueId) (parts : List PartSets) (number left rest : ℕ) (values : List ValueId) : Type 0 where
  pub within : left ≤ length parts
  pub long : length values ≡ length fitting
  pub own : ℕ
  pub low : own < product (map many_sets (drop left parts))
  pub is : number ≡ rest * product (map many_sets (drop left parts)) + own
  pub laid : slice_get (joined_by fitting (drop left parts)) own ≡ Some values
