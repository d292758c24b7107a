use Rattle.std.proofs.Common.{◌≡◌, map, take}
use Rattle.pc_repairs.specs.inside.Ages.{world_of}
use Rattle.pc_repairs.proofs.joining.ordered.Given as goal

abbrev pub invariant-loop-aged : goal.invariant-loop-aged
invariant-loop-aged l = l.sorted ≡ map world_of (take l.aged-index l.aged-items)
