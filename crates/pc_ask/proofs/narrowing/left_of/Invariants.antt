use Rattle.std.proofs.Common.{◌≡◌, ◌++◌, take}
use Rattle.pc_repairs.specs.inside.Joining.{had_by}
use Rattle.pc_ask.proofs.narrowing.left_of.Given as goal

abbrev pub invariant-loop-entry : goal.invariant-loop-entry
invariant-loop-entry l = l.left.items ≡ had_by (take l.count l.choosing.entries.now) l.values ++ take l.entry-index l.kept
