use Rattle.std.proofs.Common.{◌∙◌}
use Rattle.pc_repairs.specs.Blocks.{blocks_for}
use Rattle.pc_repairs.proofs.SetBlocks.{no_sat, of_sets}
use Rattle.pc_repairs.proofs.WholeSearch.{nothing_done, refuted_is, searched_whole, solved}
use Rattle.pc_repairs.proofs.refuting.refute_blocked.Goals as goal

pub returns-in_err-add_blocks-clause-search : goal.returns-in_err-add_blocks-clause-search
returns-in_err-add_blocks-clause-search c =
    nothing_done c.args.task.book.now (blocks_for c.args.task.book.now c.args.sets.now) (of_sets c.args.task.book.now c.args.sets.now c.requires.exact) 1 c.args.tally.now c.args.log.now c.requires.new_log

pub returns-in-Unsat-clause-refuted : goal.returns-in-Unsat-clause-refuted
returns-in-Unsat-clause-refuted c =
    refuted_is c.args.task.book.now c.solve.new.self c.solve.new.log c.in-Unsat.last (c.solve.ensures.problem ∙ c.in_ok-add_blocks.ensures.problem) c.in-Unsat.ensures.answer.0 c.in-Unsat.ensures.answer.1

pub returns-in-Unsat-clause-search : goal.returns-in-Unsat-clause-search
returns-in-Unsat-clause-search c =
    solved c.args.task.book.now (blocks_for c.args.task.book.now c.args.sets.now) (of_sets c.args.task.book.now c.args.sets.now c.requires.exact) c.add_blocks.new.solver c.solve.new.self c.args.tally.now c.solve.new.tally c.args.log.now c.solve.new.log
    c.requires.new_log c.in_ok-add_blocks.ensures c.solve.ensures.problem c.solve.ensures.blocks c.solve.ensures.log c.solve.ensures.spends

pub unreachable-requires : goal.unreachable-requires
unreachable-requires c =
    no_sat c.consistent_is_in_maximal.ensures c.args.task.book.now c.args.task.numbers.now.cells.items
    (searched_whole c.args.task.book.now c.args.task.ground.now c.args.task.numbers.now c.requires.task c.whole_is_searched.ensures)
    c.well_formed-2.ensures c.args.sets.now c.requires.exact c.solve.new.self (c.solve.ensures.problem ∙ c.in_ok-add_blocks.ensures.problem) (c.solve.ensures.blocks ∙ c.in_ok-add_blocks.ensures.blocks_are) c.in-Sat.ensures.answer

pub returns-in-Spent-clause-search : goal.returns-in-Spent-clause-search
returns-in-Spent-clause-search c =
    solved c.args.task.book.now (blocks_for c.args.task.book.now c.args.sets.now) (of_sets c.args.task.book.now c.args.sets.now c.requires.exact) c.add_blocks.new.solver c.solve.new.self c.args.tally.now c.solve.new.tally c.args.log.now c.solve.new.log
    c.requires.new_log c.in_ok-add_blocks.ensures c.solve.ensures.problem c.solve.ensures.blocks c.solve.ensures.log c.solve.ensures.spends

pub returns-in-Memory-clause-search : goal.returns-in-Memory-clause-search
returns-in-Memory-clause-search c =
    solved c.args.task.book.now (blocks_for c.args.task.book.now c.args.sets.now) (of_sets c.args.task.book.now c.args.sets.now c.requires.exact) c.add_blocks.new.solver c.solve.new.self c.args.tally.now c.solve.new.tally c.args.log.now c.solve.new.log
    c.requires.new_log c.in_ok-add_blocks.ensures c.solve.ensures.problem c.solve.ensures.blocks c.solve.ensures.log c.solve.ensures.spends
