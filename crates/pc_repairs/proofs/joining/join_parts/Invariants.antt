use Rattle.std.proofs.Common.{◌≡◌, ◌≤◌, All, drop, length}
use Rattle.pc_repairs.specs.inside.Joining.{joined_by}
use Rattle.pc_repairs.proofs.joining.join_parts.Given as goal

abbrev pub invariant-loop-left : goal.invariant-loop-left
invariant-loop-left l = record {
  within : l.left ≤ length l.parts;
  joined : l.all.items ≡ joined_by l.fitting (drop l.left l.parts);
  long : All (λ values. length values ≡ length l.fitting) l.all.items;
}

abbrev pub decreases-loop-left : goal.decreases-loop-left
decreases-loop-left l = l.left
