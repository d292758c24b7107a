use Rattle.pc_repairs.specs.Blocks.{blocks_for}
use Rattle.pc_repairs.proofs.SetBlocks.{of_sets}
use Rattle.pc_repairs.proofs.WholeSearch.{nothing_done}
use Rattle.pc_repairs.proofs.refuting.refute.Goals as goal

pub returns-in_err-numbers-clause-search : goal.returns-in_err-numbers-clause-search
returns-in_err-numbers-clause-search c =
    nothing_done c.args.book.now (blocks_for c.args.book.now c.args.sets.now) (of_sets c.args.book.now c.args.sets.now c.requires.exact) 1 c.args.tally.now c.args.log.now c.requires.new_log
