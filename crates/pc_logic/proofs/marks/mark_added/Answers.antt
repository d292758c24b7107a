use Rattle.std.proofs.Common.{arith}
use Rattle.pc_logic.proofs.MarkLemmas.{keeps_then, added_from_each, added_next}
use Rattle.pc_logic.proofs.marks.mark_added.Goals as goal

pub loop-term-preserved : goal.loop-term-preserved
loop-term-preserved c = record {
  marked = added_next c.loop-term.marks c.mark_term.new.marks c.args.items.now c.loop-term.term-index _ c.loop-term-item.result c.mark_term.ensures.kept c.loop-term-test.true c.loop-term-item.is c.loop-term.invariant.marked c.mark_term.ensures.marked;
  kept = keeps_then c.args.marks.now c.loop-term.marks c.mark_term.new.marks c.loop-term.invariant.kept c.mark_term.ensures.kept;
}

pub returns-clause-marked : goal.returns-clause-marked
returns-clause-marked c = added_from_each c.loop-term.marks c.args.items.now (λ j d l. c.loop-term.invariant.marked j d (omega arith))
