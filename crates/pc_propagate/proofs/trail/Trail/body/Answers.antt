use Rattle.pc_propagate.proofs.FitLemmas.{in_range_by_lists}
use Rattle.pc_propagate.proofs.trail.Trail.body.Goals as goal

pub returns-clause-in_range : goal.returns-clause-in_range
returns-clause-in_range c = rw (← c.self.view_is) (in_range_by_lists _ _ _ c.args.number _ c.recall.ensures.in_range c.self.invariant.3 c.get.ensures)
