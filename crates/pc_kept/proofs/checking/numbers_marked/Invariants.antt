use Rattle.std.proofs.Common.{◌≡◌, ◌++◌, drop}
use Rattle.pc_kept.specs.inside.Checks.{marked}
use Rattle.pc_kept.proofs.checking.numbers_marked.Given as goal

abbrev pub invariant-loop-i : goal.invariant-loop-i
invariant-loop-i l = l.kept.items ++ marked (drop l.i l.used) (drop l.i l.marks) ≡ marked l.used l.marks
