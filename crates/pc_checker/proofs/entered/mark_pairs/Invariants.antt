use Rattle.std.proofs.Common.{take}
use Rattle.pc_checker.specs.Entered.{ArePairsMarked}
use Rattle.pc_checker.proofs.entered.mark_pairs.Given as goal

abbrev pub invariant-loop-entry : goal.invariant-loop-entry
invariant-loop-entry l = ArePairsMarked (take l.entry-index l.entries) l.marks
