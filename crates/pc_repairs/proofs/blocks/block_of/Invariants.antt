use Rattle.std.proofs.Common.{◌≡◌, ◌++◌, drop, map}
use Rattle.pc_components.specs.Pairs.{entry_literal}
use Rattle.pc_repairs.specs.inside.Walks.{outside_by}
use Rattle.pc_repairs.proofs.blocks.block_of.Given as goal

abbrev pub invariant-loop-entry : goal.invariant-loop-entry
invariant-loop-entry l = l.block.items ++ map (entry_literal l.task.ground.now.sizes) (outside_by (drop l.entry-index l.entries) (drop l.next l.set)) ≡ map (entry_literal l.task.ground.now.sizes) (outside_by l.entries l.set)
