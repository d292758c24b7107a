use Rattle.std.proofs.Common.{take}
use Rattle.pc_sheet.specs.WellFormed.{AreDifferent}
use Rattle.pc_sortcheck.proofs.names.are_different.Given as goal

abbrev pub invariant-loop-i : goal.invariant-loop-i
invariant-loop-i l = AreDifferent (take l.i l.names)
