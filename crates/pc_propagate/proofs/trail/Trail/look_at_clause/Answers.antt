use Rattle.std.proofs.Common.{sym, ◌∙◌, arith}
use Rattle.std.proofs.lemmas.Bool.{not-false, not-true}
use Rattle.pc_lits.proofs.LitLemmas.{lit_from_same, other_lit}
use Rattle.pc_propagate.proofs.PlaceLemmas.{contains_false_at}
use Rattle.pc_propagate.proofs.WalkLemmas.{grows_watching}
use Rattle.pc_propagate.proofs.WatchLemmas.{not_own, kept_beside, through_next, over_blocked, through_blocked, blocked_size, others_false_at, has_shifted, over_shifted, through_shifted, shifted_size}
use Rattle.pc_propagate.proofs.trail.Trail.look_at_clause.Goals as goal

pub returns-then-ne-clause-turn : goal.returns-then-ne-clause-turn
returns-then-ne-clause-turn c =
    let other = other_lit _ _ (not-true _ (sym c.ne.ensures ∙ c.if-ne.true)) in (
      through_next c.args.lit c.args.index c.args.self.now c.args.watch c.requires.through c.requires.is
          (λ own. absurd (not_own _ c.args.watch.place c.body-body.result.now _ c.args.lit c.body-body.ensures.is c.requires.known.long other own)),
      omega arith,
    )

pub returns-then-is_true-clause-over : goal.returns-then-is_true-clause-over
returns-then-is_true-clause-over c = over_blocked _ _ c.args.lit c.args.index c.args.watch _ c.args.self.now c.block.new.self c.block.ensures c.requires.over

pub returns-then-is_true-clause-turn : goal.returns-then-is_true-clause-turn
returns-then-is_true-clause-turn c =
    let kept = kept_beside _ _ c.args.self.now c.args.lit c.args.watch.place c.body-body.result.now _ c.requires.over c.requires.through.at c.requires.through.last c.requires.known.number c.body-body.ensures.is c.requires.known.long
    (c.is_true.ensures.0 c.if-is_true.true) in (
      through_blocked c.args.lit c.args.index c.args.watch _ c.args.self.now c.block.new.self c.block.ensures c.requires.is kept c.requires.through,
      omega (arith, blocked_size c.args.lit c.args.index c.args.watch _ c.args.self.now c.block.new.self c.block.ensures c.requires.is),
    )

pub look_at_last-requires-clause-others : goal.look_at_last-requires-clause-others
look_at_last-requires-clause-others c =
    let own = lit_from_same _ _ (not-false _ (sym c.ne.ensures ∙ c.if-ne.false)) in
    others_false_at _ _ c.args.watch.place c.body-body.result.now _ _ c.args.lit c.body-body.ensures.is c.requires.known.long own (contains_false_at _ _ c.args.lit c.requires.through.at) c.in-None.ensures.none

pub returns-in-Some-clause-grows : goal.returns-in-Some-clause-grows
returns-in-Some-clause-grows c = grows_watching c.args.self.now c.shift.new.self _ c.args.tally.now c.shift.ensures.same

pub returns-in-Some-clause-over : goal.returns-in-Some-clause-over
returns-in-Some-clause-over c =
    let own = lit_from_same _ _ (not-false _ (sym c.ne.ensures ∙ c.if-ne.false)) in
    over_shifted _ _ c.args.lit c.args.index c.in-Some.place c.args.watch _ c.args.self.now c.shift.new.self c.requires.over c.requires.through
    (has_shifted c.args.lit c.args.index c.in-Some.place c.args.watch _ c.args.self.now c.shift.new.self c.body-body.result.now _ _ c.body-body.ensures.is c.requires.known.long c.requires.is c.requires.known.number own c.in-Some.ensures.some
    c.shift.ensures.shifted c.shift.ensures.same)

pub returns-in-Some-clause-turn : goal.returns-in-Some-clause-turn
returns-in-Some-clause-turn c =
    let own = lit_from_same _ _ (not-false _ (sym c.ne.ensures ∙ c.if-ne.false)) in
    let shifted = has_shifted c.args.lit c.args.index c.in-Some.place c.args.watch _ c.args.self.now c.shift.new.self c.body-body.result.now _ _ c.body-body.ensures.is c.requires.known.long c.requires.is c.requires.known.number own c.in-Some.ensures.some
    c.shift.ensures.shifted c.shift.ensures.same in (
      through_shifted c.args.axioms.now c.args.more.now c.args.lit c.args.index c.in-Some.place c.args.watch _ c.args.self.now c.shift.new.self c.requires.over c.requires.through shifted,
      shifted_size c.args.axioms.now c.args.more.now c.args.lit c.args.index c.in-Some.place c.args.watch _ c.args.self.now c.shift.new.self c.requires.over c.requires.through shifted,
    )
