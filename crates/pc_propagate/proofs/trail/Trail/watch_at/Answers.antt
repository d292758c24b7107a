use Rattle.pc_propagate.proofs.FitLemmas.{literal_by_lists}
use Rattle.pc_propagate.proofs.trail.Trail.watch_at.Goals as goal

pub returns-clause-blocker : goal.returns-clause-blocker
returns-clause-blocker c = rw (← c.self.view_is) (literal_by_lists _ _ _ _ c.at.result.blocker c.recall.ensures.in_range c.self.invariant.3 c.at.ensures.known.blocker)
