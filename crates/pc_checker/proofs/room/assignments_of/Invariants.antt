use Rattle.std.proofs.Common.{◌≡◌, map, take}
use Rattle.pc_checker.specs.Made.{set_values}
use Rattle.pc_checker.proofs.room.assignments_of.Given as goal

abbrev pub invariant-loop-set : goal.invariant-loop-set
invariant-loop-set l = l.assigned.items ≡ map set_values (take l.set-index l.sets)
