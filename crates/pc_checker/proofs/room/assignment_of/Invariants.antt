use Rattle.std.proofs.Common.{◌≡◌, map, take}
use Rattle.pc_checker.specs.Made.{value_said}
use Rattle.pc_checker.proofs.room.assignment_of.Given as goal

abbrev pub invariant-loop-said : goal.invariant-loop-said
invariant-loop-said l = l.assigned.items ≡ map value_said (take l.said-index l.values)
