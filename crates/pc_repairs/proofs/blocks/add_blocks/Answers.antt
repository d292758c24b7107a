use Rattle.std.proofs.Common.{[], ap, ◌∙◌, arith}
use Rattle.pc_repairs.specs.Blocks.{block_for}
use Rattle.pc_repairs.proofs.Lacked.{is_maximal}
use Rattle.pc_repairs.proofs.SetBlocks.{all_blocks, more_blocks, own_made}
use Rattle.pc_repairs.proofs.WholeSearch.{searched_whole}
use Rattle.pc_repairs.proofs.blocks.add_blocks.Goals as goal

pub loop-place-init : goal.loop-place-init
loop-place-init c = record { problem = c.requires.asked.problem; blocks = c.requires.asked.blocks_are; has = c.requires.asked.has }

pub add_block-requires : goal.add_block-requires
add_block-requires c =
    own_made c.args.task.book.now c.args.task.numbers.now.cells.items
    (searched_whole c.args.task.book.now c.args.task.ground.now c.args.task.numbers.now c.requires.task c.whole_is_searched.ensures)
    c.loop-place.solver _ _ c.loop-place.invariant.problem (c.deref.ensures.value ∙ c.in_ok-block.ensures)

pub loop-place-preserved : goal.loop-place-preserved
loop-place-preserved c = record {
  problem = c.add_block.ensures.problem ∙ c.loop-place.invariant.problem;
  blocks = more_blocks c.args.task.book.now c.args.sets.now c.loop-place.place _ _ _ (omega (arith, c.len-place-end.ensures, c.loop-place-test.true)) c.loop-place.invariant.blocks
      (c.deref.ensures.value ∙ c.in_ok-block.ensures ∙ ap (block_for c.args.task.book.now) c.entries.ensures.exact) c.in_ok-add_block.ensures.ok;
  has = c.add_block.ensures.log [] c.loop-place.invariant.has;
}

pub returns : goal.returns
returns c = record {
  problem = c.loop-place.invariant.problem;
  blocks_are = all_blocks c.args.task.book.now c.args.sets.now c.loop-place.place c.loop-place.solver.blocks (omega (arith, c.len-place-end.ensures, c.loop-place-test.false)) c.loop-place.invariant.blocks;
  has = c.loop-place.invariant.has;
}
