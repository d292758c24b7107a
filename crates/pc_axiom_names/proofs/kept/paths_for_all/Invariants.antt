use Rattle.std.proofs.Common.{length, drop, ◌≤◌}
use Rattle.std.specs.List.{AllByRecursion}
use Rattle.pc_axiom_names.specs.Keeping.{IsStandsWithin}
use Rattle.pc_axiom_names.proofs.kept.paths_for_all.Given as goal

abbrev pub invariant-loop-left : goal.invariant-loop-left
invariant-loop-left l = record {
  left : l.left ≤ length l.variables;
  pairs : AllByRecursion (IsStandsWithin 0) (drop l.left l.variables);
}

abbrev pub decreases-loop-left : goal.decreases-loop-left
decreases-loop-left l = l.left
