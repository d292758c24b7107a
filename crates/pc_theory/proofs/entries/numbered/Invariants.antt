use Rattle.std.proofs.Common.{◌≡◌, filter, take}
use Rattle.pc_theory.specs.inside.PartTasks.{has_number}
use Rattle.pc_theory.proofs.entries.numbered.Given as goal

abbrev pub invariant-loop-entry : goal.invariant-loop-entry
invariant-loop-entry l = l.found.items ≡ filter (has_number l.components.numbers l.number) (take l.entry-index l.entries)
