use Rattle.std.proofs.Common.{length, drop, ◌≤◌}
use Rattle.std.specs.List.{AllByRecursion}
use Rattle.pc_axiom_names.specs.Keeping.{IsKeptWithin}
use Rattle.pc_axiom_names.proofs.kept.kept_for_all.Given as goal

abbrev pub invariant-loop-left : goal.invariant-loop-left
invariant-loop-left l = record {
  paths : l.paths ≤ l.count;
  left : l.left ≤ length l.axioms;
  behind : AllByRecursion (IsKeptWithin l.count 0) (drop l.left l.axioms);
}

abbrev pub decreases-loop-left : goal.decreases-loop-left
decreases-loop-left l = l.left
