use Rattle.std.proofs.Common.{ℕ, ◌<◌, ◌≤◌, ◌≢◌, Contains, get_or}
use Rattle.pc_propagate.specs.Listed.{no_literal}
use Rattle.pc_propagate.specs.Entries.{falses}
use Rattle.pc_propagate.proofs.trail.Trail.open_beside.Given as goal

abbrev pub invariant-places : goal.invariant-places
invariant-places l = (k : ℕ) → 2 ≤ k → k < l.place → get_or l.body k no_literal ≢ l.other → Contains (falses l.self.entries) (get_or l.body k no_literal)
