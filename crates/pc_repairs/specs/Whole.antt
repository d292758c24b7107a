-- The maximal sets of a whole sheet, where there are few enough.
use Rattle.std.specs.Prelude.{◌≤◌, List, Option, None, Some, length, map, AllPairs}
use Rattle.pc_sheet.specs.Sheet.{Sheet}
use Rattle.pc_world_list.specs.Worlds.{WorldView, set_of, AreExact}
use Rattle.pc_world_list.specs.FewSets.{most_sets, HasManySets}
use Rattle.pc_repairs.specs.Listed.{ComesFirst}

-- exactly the maximal sets in their order, each with an assignment that fits and has it
pub record AreAllSets (sheet : Sheet) (worlds : List WorldView) : Type 0 where
  pub exact : AreExact sheet worlds
  pub few : length worlds ≤ most_sets
  pub order : AllPairs (ComesFirst sheet.entries) (map set_of worlds)

-- there are none exactly where the sheet has many maximal sets
abbrev pub AreWhole : Sheet → Option (List WorldView) → Type 0
AreWhole sheet None = HasManySets sheet
AreWhole sheet (Some worlds) = AreAllSets sheet worlds
