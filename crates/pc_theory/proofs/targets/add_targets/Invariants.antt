use Rattle.std.proofs.Common.{◌≡◌, ◌++◌}
use Rattle.pc_theory.specs.Targets.{targets_on_cell}
use Rattle.pc_theory.proofs.targets.add_targets.Given as goal

abbrev pub invariant-loop-value : goal.invariant-loop-value
invariant-loop-value l = l.targets.items ≡ l.initial.targets.items ++ targets_on_cell l.cell l.value
