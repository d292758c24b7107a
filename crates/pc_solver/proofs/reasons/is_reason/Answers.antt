use Rattle.std.proofs.Common.{◌∙◌, sym, arith}
use Rattle.pc_lits.proofs.LitLemmas.{other_lit}
use Rattle.pc_solver.proofs.ReasonLemmas.{second, has_second, not_none_from, other_known, reason_at_start, reason_in_time}
use Rattle.pc_solver.proofs.reasons.is_reason.Goals as goal

pub returns-then-level-eq0 : goal.returns-then-level-eq0
returns-then-level-eq0 c =
    reason_at_start c.args.trail.now.entries c.args.clause.now c.args.lit c.place_of-place.result c.level_of-level.result c.reason_of.result c.requires.is_true c.reason_of.ensures (not_none_from c.reason_of.result c.is_none.result c.is_none.ensures c.if-is_none.false)
    c.place_of-place.ensures c.if-not-are_before.ensures c.level_of-level.ensures (omega (arith, c.if-level-eq0.true))

pub level_of-requires : goal.level_of-requires
level_of-requires c =
    other_known c.args.trail.now.entries c.place_of-place.result c.args.clause.now c.args.lit (second c.args.clause.now) c.if-not-are_before.ensures (has_second c.args.clause.now c.if-clause-lt2.false)
    (other_lit (second c.args.clause.now) c.args.lit (sym c.eq.ensures ∙ c.if-eq.false))

pub returns : goal.returns
returns c =
    reason_in_time c.args.trail.now.entries c.args.clause.now c.args.lit c.place_of-place.result c.level_of-level.result c.reason_of.result c.requires.is_true c.reason_of.ensures (not_none_from c.reason_of.result c.is_none.result c.is_none.ensures c.if-is_none.false)
    c.place_of-place.ensures c.if-not-are_before.ensures c.level_of-level.ensures (second c.args.clause.now) c.level_of.result (has_second c.args.clause.now c.if-clause-lt2.false)
    (other_lit (second c.args.clause.now) c.args.lit (sym c.eq.ensures ∙ c.if-eq.false)) c.level_of.ensures c.if-level_of-level.false
