use Rattle.std.proofs.Common.{refl, arith}
use Rattle.pc_propagate.proofs.LinkLemmas.{linked_added, seen_added, same_view}
use Rattle.pc_propagate.proofs.lists.Lists.add.Goals as goal

pub invariant_of-self-2 : goal.invariant_of-self-2
invariant_of-self-2 c = linked_added _ _ _ c.in_ok-push.ensures.items (omega (arith, c.if-len.false, c.len.ensures, c.self.inside.places.ok.0)) c.self.invariant

pub returns-clause-ok : goal.returns-clause-ok
returns-clause-ok c = rw (← c.self.view_is) (same_view _ _ _ _ refl (seen_added _ _ c.in_ok-push.ensures.items))
