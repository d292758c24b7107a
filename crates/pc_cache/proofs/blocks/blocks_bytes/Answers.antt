use Rattle.std.proofs.Common.{ap, ◌∙◌, arith}
use Rattle.std.proofs.lemmas.List.{take_all}
use Rattle.pc_log.specs.Sparse.{bytes_there}
use Rattle.pc_cache.specs.inside.Kept.{bytes_of_blocks}
use Rattle.pc_cache.proofs.BlockLemmas.{blocks_more}
use Rattle.pc_cache.proofs.blocks.blocks_bytes.Goals as goal

pub loop-block-preserved : goal.loop-block-preserved
loop-block-preserved c = record {
  total = blocks_more c.args.blocks.now c.loop-block.block-index c.block-item.result c.loop-block.total c.from-total.result c.loop-block-test.true c.loop-block.invariant.total
      (c.from-total.ensures ∙ c.bytes.ensures ∙ ap bytes_there c.block-item.is);
  few = omega (arith, c.loop-block.invariant.few);
}

pub returns : goal.returns
returns c = c.loop-block.invariant.total ∙ ap bytes_of_blocks (take_all c.loop-block.block-index c.args.blocks.now c.loop-block-test.false)
