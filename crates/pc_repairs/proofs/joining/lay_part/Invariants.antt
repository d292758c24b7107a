use Rattle.std.proofs.Common.{◌≡◌, take}
use Rattle.pc_repairs.specs.inside.Joining.{laid_by_world}
use Rattle.pc_repairs.proofs.joining.lay_part.Given as goal

abbrev pub invariant-loop-place : goal.invariant-loop-place
invariant-loop-place l = l.laid.items ≡ laid_by_world l.all l.part.cells.now (take l.place l.part.sets.now)
