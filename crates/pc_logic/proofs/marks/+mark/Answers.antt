use Rattle.std.proofs.Common.{arith}
use Rattle.pc_logic.proofs.MarkLemmas.{keeps_then, terms_from_each, terms_next}
use Rattle.pc_logic.proofs.marks.+mark.Goals as goal

pub mark_terms-loop-term-preserved : goal.mark_terms-loop-term-preserved
mark_terms-loop-term-preserved t c = record {
  marked = terms_next c.loop-term.marks c.mark_term.new.marks c.args.terms.now c.loop-term.term-index _ c.term-item.result c.mark_term.ensures.kept c.loop-term-test.true c.term-item.is c.loop-term.invariant.marked c.mark_term.ensures.marked;
  kept = keeps_then c.args.marks.now c.loop-term.marks c.mark_term.new.marks c.loop-term.invariant.kept c.mark_term.ensures.kept;
}

pub mark_terms-returns-clause-marked : goal.mark_terms-returns-clause-marked
mark_terms-returns-clause-marked t c = terms_from_each c.loop-term.marks c.args.terms.now (λ j d l. c.loop-term.invariant.marked j d (omega arith))
