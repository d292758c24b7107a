use Rattle.pc_elaborate.proofs.ReadsTold.{counted_more}
use Rattle.pc_elaborate.proofs.reads.+reads.Goals as goal

pub reads_in_terms-loop-term-preserved : goal.reads_in_terms-loop-term-preserved
reads_in_terms-loop-term-preserved t c = counted_more c.args.terms.now c.loop-term.term-index c.loop-term.reads c.term-item.result c.reads_in_term.result c.counted-reads.result c.loop-term.invariant c.term-item.is c.loop-term-test.true c.reads_in_term.ensures c.counted-reads.ensures
