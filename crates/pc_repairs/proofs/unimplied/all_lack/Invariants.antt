use Rattle.std.proofs.Common.{All, take}
use Rattle.pc_sheet.specs.Entailment.{HasTarget}
use Rattle.pc_repairs.proofs.unimplied.all_lack.Given as goal

abbrev pub invariant-loop-place : goal.invariant-loop-place
invariant-loop-place l = All (λ w. ¬ HasTarget w.shown l.target) (take l.place l.sets)
