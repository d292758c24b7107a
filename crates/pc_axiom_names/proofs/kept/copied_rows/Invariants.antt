use Rattle.std.proofs.Common.{◌≡◌, take}
use Rattle.pc_axiom_names.proofs.kept.copied_rows.Given as goal

abbrev pub invariant-loop-i : goal.invariant-loop-i
invariant-loop-i l = l.copy ≡ take l.i l.rows
