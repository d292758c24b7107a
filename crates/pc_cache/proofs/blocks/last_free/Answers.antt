use Rattle.std.proofs.Common.{inl, inr, arith}
use Rattle.pc_log.specs.Sparse.{line_at}
use Rattle.pc_cache.proofs.BlockLemmas.{free_last}
use Rattle.pc_cache.proofs.LastLemmas.{free_not}
use Rattle.pc_cache.proofs.SlotLemmas.{nothing_left}
use Rattle.pc_cache.proofs.blocks.last_free.Goals as goal

pub returns-then-count-eq0-clause-none : goal.returns-then-count-eq0-clause-none
returns-then-count-eq0-clause-none c = λ no. inl (nothing_left c.args.blocks.now (omega arith))

pub returns-then-agrees-clause-some : goal.returns-then-agrees-clause-some
returns-then-agrees-clause-some c = (omega arith, free_last (line_at c.args.log.now) c.args.places.now c.args.blocks.now _ c.index-blocks-count.result (omega arith) c.index-blocks-count.is (c.agrees.ensures.0 c.if-agrees.true))

pub returns-else-agrees-clause-none : goal.returns-else-agrees-clause-none
returns-else-agrees-clause-none c = λ no.
    inr (free_not c.args.log.now c.args.places.now c.args.blocks.now _ c.index-blocks-count.result (omega arith) c.index-blocks-count.is (λ may. absurd (cc (c.agrees.ensures.1 may, c.if-agrees.false))))
