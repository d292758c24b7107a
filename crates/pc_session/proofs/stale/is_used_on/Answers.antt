use Rattle.std.proofs.Common.{true, false, sym, ◌∙◌}
use Rattle.pc_session.specs.inside.Taken.{takes}
use Rattle.pc_session.proofs.UsedTargets.{none_more, there_of_cell}
use Rattle.pc_session.proofs.stale.is_used_on.Goals as goal

pub returns-then-is_stale-clause-some : goal.returns-then-is_stale-clause-some
returns-then-is_stale-clause-some c =
    λ _. (c.target.result, there_of_cell c.args.cell c.args.count c.loop-value.value true c.target.result c.target.ensures c.loop-value-test.true, sym c.is_stale.ensures ∙ c.if-is_stale.true)

pub returns-then-is_stale-2-clause-some : goal.returns-then-is_stale-2-clause-some
returns-then-is_stale-2-clause-some c =
    λ _. (c.target-in-loop-value.result, there_of_cell c.args.cell c.args.count c.loop-value.value false c.target-in-loop-value.result c.target-in-loop-value.ensures c.loop-value-test.true, sym c.is_stale-in-loop-value.ensures ∙ c.if-is_stale-2.true)

pub loop-value-preserved : goal.loop-value-preserved
loop-value-preserved c =
    none_more c.args.cache.now.rows (takes c.args.taken) c.args.cell c.loop-value.value c.target.result c.target-in-loop-value.result c.is_stale.result c.is_stale-in-loop-value.result c.target.ensures c.target-in-loop-value.ensures c.is_stale.ensures c.is_stale-in-loop-value.ensures c.if-is_stale.false c.if-is_stale-2.false
    c.loop-value.invariant
