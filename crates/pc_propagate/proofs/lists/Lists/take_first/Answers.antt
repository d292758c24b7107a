use Rattle.std.proofs.Common.{ℕ, ◌≡◌, None, Some, get_or, sym, ◌∙◌, arith}
use Rattle.std.proofs.lemmas.List.{length-set, length-map}
use Rattle.pc_propagate.specs.declared.links.Place.{Place}
use Rattle.pc_propagate.specs.inside.Links.{linked, lists_of}
use Rattle.pc_propagate.proofs.LinkLemmas.{first_found, none_found, linked_taken, seen_written, same_view}
use Rattle.pc_propagate.proofs.lists.Lists.take_first.Goals as goal

pub returns-in_err-place-clause-none : goal.returns-in_err-place-clause-none
returns-in_err-place-clause-none c =
    let list = rw (← c.self.view_is) at c.requires in
    let nothing : (place : ℕ) → get_or (lists_of c.self.inside.places.items) place None ≡ Some c.args.list → ⊥ =
    none_found _ c.self.inside.places.items c.args.list _ c.self.invariant list c.index-ends.ensures (sym c.linked.ensures ∙ c.in_err-place.was) in
    rw (c.from_residual.ensures, ← c.self.view_is) nothing

pub index-at-requires : goal.index-at-requires
index-at-requires c =
    let list = rw (← c.self.view_is) at c.requires in
    omega (arith, (first_found _ c.self.inside.places.items c.args.list c.in_ok-place.place _ c.self.invariant list c.index-ends.ensures (sym c.linked.ensures ∙ c.in_ok-place.was)).0, c.self.inside.places.ok.0)

pub index_mut-requires-2 : goal.index_mut-requires-2
index_mut-requires-2 c =
    let list = rw (← c.self.view_is) at c.requires in
    omega (arith, (first_found _ c.self.inside.places.items c.args.list c.in_ok-place.place _ c.self.invariant list c.index-ends.ensures (sym c.linked.ensures ∙ c.in_ok-place.was)).0, c.self.inside.places.ok.0)

pub invariant_of-self : goal.invariant_of-self
invariant_of-self c =
    let list = rw (← c.self.view_is) at c.requires in
    linked_taken _ _ c.args.list c.in_ok-place.place c.index-ends.result.now c.index-at.result.now c.self.invariant list c.index-ends.ensures (sym c.linked.ensures ∙ c.in_ok-place.was) c.index-at.ensures

pub returns-clause-within : goal.returns-clause-within
returns-clause-within c =
    let list = rw (← c.self.view_is) at c.requires in
    let found = first_found _ c.self.inside.places.items c.args.list c.in_ok-place.place _ c.self.invariant list c.index-ends.ensures (sym c.linked.ensures ∙ c.in_ok-place.was) in
    rw (← c.self.view_is) (omega (arith, found.0, length-map c.self.inside.places.items (λ (x : Place). linked x.list)))

pub returns-clause-was : goal.returns-clause-was
returns-clause-was c =
    let list = rw (← c.self.view_is) at c.requires in
    rw (← c.self.view_is) (first_found _ c.self.inside.places.items c.args.list c.in_ok-place.place _ c.self.invariant list c.index-ends.ensures (sym c.linked.ensures ∙ c.in_ok-place.was)).1

pub returns-clause-taken : goal.returns-clause-taken
returns-clause-taken c =
    let list = rw (← c.self.view_is) at c.requires in
    rw (← c.self.view_is)
    (same_view _ _ _ _ (length-set c.self.inside.ends.items _ _) (seen_written c.self.inside.places.items c.in_ok-place.place (record { next = c.index-at.result.now.next; list = 0 })))
