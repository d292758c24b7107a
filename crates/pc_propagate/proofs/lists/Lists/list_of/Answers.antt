use Rattle.std.proofs.Common.{arith}
use Rattle.std.proofs.lemmas.List.{length-map}
use Rattle.pc_propagate.specs.declared.links.Place.{Place}
use Rattle.pc_propagate.specs.inside.Links.{linked}
use Rattle.pc_propagate.proofs.LinkLemmas.{list_below}
use Rattle.pc_propagate.proofs.lists.Lists.list_of.Goals as goal

pub returns-clause-below : goal.returns-clause-below
returns-clause-below c =
    let within = rw (← c.self.view_is) at c.requires in
    rw (← c.self.view_is)
    (list_below _ c.self.inside.places.items c.args.place c.index.result.now _ c.self.invariant (omega (arith, within, length-map c.self.inside.places.items (λ (x : Place). linked x.list))) c.index.ensures c.linked.ensures)
