use Rattle.std.proofs.Common.{Some, ap, refl}
use Rattle.std.proofs.lemmas.Bool.{iff_false}
use Rattle.pc_propagate.specs.TrailView.{TrailView}
use Rattle.pc_propagate.proofs.OverLemmas.{based, attached_ref}
use Rattle.pc_propagate.proofs.TrailLemmas.{unset_open}
use Rattle.pc_propagate.proofs.TurnLemmas.{Contains-from_slice_get, spent_says}
use Rattle.pc_propagate.proofs.WalkLemmas.{grows_pushed}
use Rattle.pc_propagate.proofs.WatchLemmas.{literals_named, named_in_range, all_false, last_open, over_blocked, through_implied}
use Rattle.pc_propagate.proofs.trail.Trail.look_at_last.Goals as goal

pub is_false-requires : goal.is_false-requires
is_false-requires c = named_in_range _ _ c.args.self.now _ c.attached_at-reference.result c.args.last c.requires.over c.attached_at-reference.ensures c.requires.stands

pub returns-then-is_false-clause-turn : goal.returns-then-is_false-clause-turn
returns-then-is_false-clause-turn c =
    let has = Contains-from_slice_get c.args.self.now.attached _ c.attached_at-reference.result c.attached_at-reference.ensures in
    let named = literals_named _ _ c.args.self.now _ c.attached_at-reference.result c.requires.over c.attached_at-reference.ensures in
    (has, (attached_ref _ _ c.args.self.now c.attached_at-reference.result (based _ _ c.args.self.now c.requires.over) has, all_false _ _ _ c.args.last named c.requires.others (c.is_false.ensures.0 c.if-is_false.true)))

pub imply-requires-clause-in_range : goal.imply-requires-clause-in_range
imply-requires-clause-in_range c = named_in_range _ _ c.args.self.now _ c.attached_at-reference.result c.args.last c.requires.over c.attached_at-reference.ensures c.requires.stands

pub imply-requires-clause-unset : goal.imply-requires-clause-unset
imply-requires-clause-unset c = unset_open c.args.self.now.entries c.args.last (iff_false c.is_false.ensures c.if-is_false.false) c.requires.not_true

pub returns-in-Done-clause-grows : goal.returns-in-Done-clause-grows
returns-in-Done-clause-grows c =
    let blocked = c.block.ensures in
    grows_pushed c.args.self.now c.imply.new.self c.block.new.self c.args.tally.now c.imply.new.tally (record { literal = c.args.last; reason = Some c.attached_at-reference.result }) c.in-Done.ensures.placed.0 c.in-Done.ensures.placed.1
    refl (Contains-from_slice_get c.args.self.now.attached _ c.attached_at-reference.result c.attached_at-reference.ensures) (ap (λ (t : TrailView). t.variables) blocked) (ap (λ (t : TrailView). t.entries) blocked) (ap (λ (t : TrailView). t.attached) blocked)

pub returns-in-Done-clause-over : goal.returns-in-Done-clause-over
returns-in-Done-clause-over c =
    let has = Contains-from_slice_get c.args.self.now.attached _ c.attached_at-reference.result c.attached_at-reference.ensures in
    let named = literals_named _ _ c.args.self.now _ c.attached_at-reference.result c.requires.over c.attached_at-reference.ensures in
    let last = last_open _ _ _ c.args.last named c.requires.stands c.requires.others (iff_false c.is_false.ensures c.if-is_false.false) in
    over_blocked _ _ c.args.lit c.args.index c.args.watch c.args.last c.imply.new.self c.block.new.self c.block.ensures (c.in-Done.ensures.over _ _ c.requires.over has last)

pub returns-in-Done-clause-turn : goal.returns-in-Done-clause-turn
returns-in-Done-clause-turn c =
    let has = Contains-from_slice_get c.args.self.now.attached _ c.attached_at-reference.result c.attached_at-reference.ensures in
    let named = literals_named _ _ c.args.self.now _ c.attached_at-reference.result c.requires.over c.attached_at-reference.ensures in
    let last = last_open _ _ _ c.args.last named c.requires.stands c.requires.others (iff_false c.is_false.ensures c.if-is_false.false) in
    through_implied _ _ c.args.lit c.args.index c.args.watch c.args.last c.attached_at-reference.result c.args.self.now c.imply.new.self c.block.new.self c.in-Done.ensures.placed.0 c.block.ensures (c.in-Done.ensures.over _ _ c.requires.over has last)
    c.requires.through c.requires.is c.requires.known.number c.requires.stands

pub returns-in-Spent-clause-turn : goal.returns-in-Spent-clause-turn
returns-in-Spent-clause-turn c =
    let has = Contains-from_slice_get c.args.self.now.attached _ c.attached_at-reference.result c.attached_at-reference.ensures in
    let named = literals_named _ _ c.args.self.now _ c.attached_at-reference.result c.requires.over c.attached_at-reference.ensures in
    let not_false = iff_false c.is_false.ensures c.if-is_false.false in
    spent_says _ _ _ _ _ _ c.attached_at-reference.result c.args.last c.in-Spent.ensures.placed has (last_open _ _ _ c.args.last named c.requires.stands c.requires.others not_false)
    (unset_open c.args.self.now.entries c.args.last not_false c.requires.not_true)
