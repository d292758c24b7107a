use Rattle.std.proofs.Common.{◌∙◌}
use Rattle.pc_repairs.proofs.Cells.{assigns_here, given_entails, given_shows, has_pairs, own_given}
use Rattle.pc_repairs.proofs.WholeSearch.{none_spent, one_spent}
use Rattle.pc_repairs.proofs.asking.ask.Goals as goal

pub returns-in_err-assumed-clause-spends : goal.returns-in_err-assumed-clause-spends
returns-in_err-assumed-clause-spends c = none_spent c.args.task.book.now 1 c.args.tally.now c.args.log.now

pub solve-requires-clause-assumed : goal.solve-requires-clause-assumed
solve-requires-clause-assumed c =
    own_given c.whole_is_searched.ensures c.args.task.book.now c.args.task.ground.now c.args.task.numbers.now c.requires.task c.args.set.now c.args.target c.requires.holds c.requires.set c.requires.target
    _ (c.deref.ensures.value ∙ c.in_ok-assumed.ensures) c.args.solver.now c.requires.asked.problem

pub read_values-requires-clause-pairs : goal.read_values-requires-clause-pairs
read_values-requires-clause-pairs c =
    rw c.deref-in-Sat.ensures.value
    (has_pairs c.args.task.book.now c.args.task.ground.now c.args.task.numbers.now c.requires.task c.whole_is_searched.ensures c.solve.new.self (c.solve.ensures.problem ∙ c.requires.asked.problem))

pub returns-in-Sat-clause-spends : goal.returns-in-Sat-clause-spends
returns-in-Sat-clause-spends c = one_spent c.args.task.book.now c.args.solver.now c.args.tally.now c.solve.new.tally c.args.log.now c.solve.new.log c.requires.asked.problem c.solve.ensures.spends

pub returns-in-Sat-clause-says : goal.returns-in-Sat-clause-says
returns-in-Sat-clause-says c =
    given_shows c.whole_is_searched.ensures c.args.task.book.now c.args.task.ground.now c.args.task.numbers.now c.requires.task c.args.set.now c.args.target c.requires.holds c.requires.set c.requires.target
    _ (c.deref.ensures.value ∙ c.in_ok-assumed.ensures) c.solve.new.self (c.solve.ensures.problem ∙ c.requires.asked.problem) (c.solve.ensures.blocks ∙ c.requires.asked.blocks_are) c.in-Sat.ensures.answer c.read_values.new.base (assigns_here c.args.task.book.now c.args.task.ground.now c.args.task.numbers.now c.requires.task c.read_values.new.base c.read_values.ensures.within) (rw c.deref-in-Sat.ensures.value at c.read_values.ensures.reads)

pub returns-in-Unsat-clause-spends : goal.returns-in-Unsat-clause-spends
returns-in-Unsat-clause-spends c = one_spent c.args.task.book.now c.args.solver.now c.args.tally.now c.solve.new.tally c.args.log.now c.solve.new.log c.requires.asked.problem c.solve.ensures.spends

pub returns-in-Unsat-clause-says : goal.returns-in-Unsat-clause-says
returns-in-Unsat-clause-says c =
    given_entails c.whole_is_searched.ensures c.args.task.book.now c.args.task.ground.now c.args.task.numbers.now c.requires.task c.args.set.now c.args.target c.requires.holds c.requires.set c.requires.target
    _ (c.deref.ensures.value ∙ c.in_ok-assumed.ensures) c.solve.new.self (c.solve.ensures.problem ∙ c.requires.asked.problem) (c.solve.ensures.blocks ∙ c.requires.asked.blocks_are) c.in-Unsat.ensures.answer.2

pub returns-in-Spent-clause-spends : goal.returns-in-Spent-clause-spends
returns-in-Spent-clause-spends c = one_spent c.args.task.book.now c.args.solver.now c.args.tally.now c.solve.new.tally c.args.log.now c.solve.new.log c.requires.asked.problem c.solve.ensures.spends

pub returns-clause-spends : goal.returns-clause-spends
returns-clause-spends c = one_spent c.args.task.book.now c.args.solver.now c.args.tally.now c.solve.new.tally c.args.log.now c.solve.new.log c.requires.asked.problem c.solve.ensures.spends
