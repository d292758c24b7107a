use Rattle.std.proofs.Common.{◌≡◌, false, take}
use Rattle.pc_display.specs.Supports.{IsReasoning, Reasoning}
use Rattle.pc_display.specs.Show.{have_conflict}
use Rattle.pc_display.proofs.display.have_conflict.Given as goal

abbrev pub invariant-loop-entry : goal.invariant-loop-entry
invariant-loop-entry g l =
    (reason : Reasoning) → IsReasoning (g.V.Supports.sheet l.view) reason → have_conflict reason (take l.entry-index l.entries) ≡ false
