use Rattle.std.proofs.Common.{List, Option, length, ap, arith}
use Rattle.std.proofs.lemmas.List.{length_push}
use Rattle.pc_log.specs.Lines.{LogLine}
use Rattle.pc_cache.proofs.BlockLemmas.{empty_more}
use Rattle.pc_cache.proofs.blocks.empty_blocks.Goals as goal

pub loop-block-preserved : goal.loop-block-preserved
loop-block-preserved c = record {
  size = omega (arith, ap (λ (bs : List (List (Option LogLine))). length bs) c.in_ok-push.ensures.items, length_push c.loop-block.blocks.items c.new.result, c.loop-block.invariant.size);
  empty = rw c.in_ok-push.ensures.items (empty_more c.loop-block.blocks.items c.new.result c.new.ensures c.loop-block.invariant.empty);
}
