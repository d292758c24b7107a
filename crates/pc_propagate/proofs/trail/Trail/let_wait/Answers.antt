use Rattle.pc_propagate.proofs.WalkLemmas.{waits_already}
use Rattle.pc_propagate.proofs.trail.Trail.let_wait.Goals as goal

pub returns-else-is_none : goal.returns-else-is_none
returns-else-is_none c =
    rw (← c.self.view_is) (waits_already c.args.number _ _ c.list_of.result c.is_none.result c.list_of.ensures.is c.list_of.ensures.below c.self.invariant.2 c.is_none.ensures c.if-is_none.false)
