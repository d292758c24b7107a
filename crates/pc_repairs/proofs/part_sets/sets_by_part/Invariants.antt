use Rattle.std.proofs.Common.{take}
use Rattle.std.specs.List.{AllZip}
use Rattle.pc_world_list.specs.Chosen.{chosen_parts}
use Rattle.pc_repairs.specs.inside.Joining.{IsPartSets}
use Rattle.pc_repairs.proofs.part_sets.sets_by_part.Given as goal

abbrev pub invariant-loop-part : goal.invariant-loop-part
invariant-loop-part g l = AllZip (IsPartSets (g.C.Choices.sheet l.view)) (take l.part (chosen_parts (g.C.Choices.sheet l.view))) l.parts.items
