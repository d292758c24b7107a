use Rattle.std.proofs.Common.{map, take}
use Rattle.std.specs.List.{AllZip}
use Rattle.pc_world_list.specs.Chosen.{chosen_parts}
use Rattle.pc_repairs.specs.Listed.{IsListedPart}
use Rattle.pc_repairs.specs.Listings.{part_listed}
use Rattle.pc_repairs.proofs.listing.Listing.new.Given as goal

abbrev pub invariant-loop-part : goal.invariant-loop-part
invariant-loop-part g l = AllZip (IsListedPart (g.C.Choices.sheet l.view)) (take l.part-index (chosen_parts (g.C.Choices.sheet l.view))) (map part_listed l.parts.items)
