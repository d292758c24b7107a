use Rattle.std.proofs.Common.{◌≡◌, ◌++◌, drop}
use Rattle.pc_ground.specs.Owners.{cells_times}
use Rattle.pc_ground.proofs.owners.own_cells.Given as goal

abbrev pub invariant-loop-c : goal.invariant-loop-c
invariant-loop-c l = l.owners.items ++ cells_times l.c (drop l.c l.cells) ≡ l.fn.owners.items ++ cells_times 0 l.cells
