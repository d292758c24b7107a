use Rattle.std.proofs.Common.{◌≡◌, map, take}
use Rattle.pc_repairs.specs.inside.Joining.{world_had}
use Rattle.pc_repairs.proofs.joining.worlds_of.Given as goal

abbrev pub invariant-loop-values : goal.invariant-loop-values
invariant-loop-values l = l.worlds ≡ map (world_had l.entries) (take l.values-index l.all)
