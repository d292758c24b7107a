use Rattle.std.proofs.Common.{◌≡◌, replicate}
use Rattle.pc_components.proofs.labels.no_labels.Given as goal

abbrev pub invariant-loop : goal.invariant-loop
invariant-loop l = l.labels.items ≡ replicate l.counter l.count
