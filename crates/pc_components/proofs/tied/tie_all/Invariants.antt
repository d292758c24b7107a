use Rattle.std.proofs.Common.{◌≡◌}
use Rattle.pc_components.proofs.TiedRight.{tied_from}
use Rattle.pc_components.proofs.tied.tie_all.Given as goal

abbrev pub invariant-loop-place : goal.invariant-loop-place
invariant-loop-place l = tied_from l.place l.cells l.labels.items ≡ tied_from 1 l.cells l.fn.labels.items
