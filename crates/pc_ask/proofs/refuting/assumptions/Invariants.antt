use Rattle.std.proofs.Common.{◌≡◌, map, take}
use Rattle.pc_components.specs.Pairs.{entry_literal}
use Rattle.pc_ask.proofs.refuting.assumptions.Given as goal

abbrev pub invariant-loop-entry : goal.invariant-loop-entry
invariant-loop-entry l = l.lits.items ≡ map (entry_literal l.task.ground.now.sizes) (take l.entry-index l.set)
