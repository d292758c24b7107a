use Rattle.std.proofs.Common.{refl, arith}
use Rattle.pc_propagate.proofs.LinkLemmas.{linked_popped, seen_popped, same_view}
use Rattle.pc_propagate.proofs.lists.Lists.drop_last.Goals as goal

pub invariant_of-self : goal.invariant_of-self
invariant_of-self c =
    let front = rw (← c.self.view_is) at c.requires in
    linked_popped _ c.self.inside.places.items _ front.0 c.pop.result c.pop.ensures.items (λ some. c.pop.ensures.variant.1 (omega (arith, some, c.self.inside.places.ok.0))) front.1 c.self.invariant

pub returns : goal.returns
returns c =
    rw (← c.self.view_is)
    (λ front seen. same_view _ _ _ _ refl (seen_popped c.self.inside.places.items _ front c.pop.result c.pop.ensures.items (λ some. c.pop.ensures.variant.1 (omega (arith, some, c.self.inside.places.ok.0))) seen))
