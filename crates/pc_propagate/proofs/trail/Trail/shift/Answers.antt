use Rattle.std.proofs.Common.{◌∙◌}
use Rattle.pc_propagate.proofs.WatchLemmas.{shifted_lists}
use Rattle.pc_propagate.proofs.trail.Trail.shift.Goals as goal

pub invariant_of-self : goal.invariant_of-self
invariant_of-self c = (c.self.invariant.0, c.self.invariant.1, c.self.invariant.2, shifted_lists _ _ _ _ _ _ _ c.shift.ensures ∙ c.self.invariant.3)
