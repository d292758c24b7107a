use Rattle.std.proofs.Common.{ℕ, ◌<◌, ◌≤◌}
use Rattle.pc_analyze.specs.inside.Marking.{IsMarked}
use Rattle.pc_analyze.proofs.marks.end_of_marks.Given as goal

abbrev pub invariant-walk : goal.invariant-walk
invariant-walk l = record {
  within : l.place ≤ l.start;
  none : (k : ℕ) → l.place ≤ k → k < l.start → IsMarked l.marks k → ⊥;
}

abbrev pub decreases-walk : goal.decreases-walk
decreases-walk l = l.place
