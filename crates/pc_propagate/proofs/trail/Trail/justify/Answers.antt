use Rattle.std.proofs.Common.{refl}
use Rattle.pc_propagate.proofs.JustifyLemmas.{IsTrail-justified, AreSlots-justified, read_entry, read_implied, is_justified, over_justified}
use Rattle.pc_propagate.proofs.trail.Trail.justify.Goals as goal

pub invariant_of-self : goal.invariant_of-self
invariant_of-self c =
    let is = rw (← c.self.view_is) at c.slot_of-place.ensures.0 in
    let had = rw (← c.self.view_is) at c.requires in
    let at = read_entry c.self.inside.entries.items c.args.variable c.slot_of-place.result.place c.index.result.now is c.index.ensures in
    let some = read_implied c.self.inside.entries.items c.args.variable c.slot_of-place.result.place c.index.result.now is c.index.ensures had in (
      IsTrail-justified c.self.inside.entries.items c.slot_of-place.result.place c.index.result.now c.args.reason at _ _ _ some c.self.invariant.0,
      AreSlots-justified c.self.inside.entries.items c.slot_of-place.result.place c.index.result.now c.args.reason at _ _ some c.self.invariant.1,
      c.self.invariant.2,
      c.self.invariant.3,
    )

pub returns-clause-justified : goal.returns-clause-justified
returns-clause-justified c =
    let is = rw (← c.self.view_is) at c.slot_of-place.ensures.0 in
    let had = rw (← c.self.view_is) at c.requires in
    rw (← c.self.view_is) (is_justified c.args.variable c.args.reason _ _ c.slot_of-place.result.place c.index.result.now is c.index.ensures had refl)

pub returns-clause-over : goal.returns-clause-over
returns-clause-over c =
    let is = rw (← c.self.view_is) at c.slot_of-place.ensures.0 in
    let had = rw (← c.self.view_is) at c.requires in
    rw (← c.self.view_is) (λ axioms more place at over has last.
    over_justified axioms more c.args.variable c.args.reason _ _ (is_justified c.args.variable c.args.reason _ _ c.slot_of-place.result.place c.index.result.now is c.index.ensures had refl) place at over has last)
