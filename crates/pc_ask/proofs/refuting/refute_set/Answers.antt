use Rattle.std.proofs.Common.{◌∙◌}
use Rattle.pc_solver.proofs.SpendingLemmas.{goes_none}
use Rattle.pc_ask.proofs.Searched.{called, given_denied, given_stands, own_given}
use Rattle.pc_ask.proofs.refuting.refute_set.Goals as goal

pub returns-in_err-assumed-clause-goes_on : goal.returns-in_err-assumed-clause-goes_on
returns-in_err-assumed-clause-goes_on c = goes_none 1 c.args.solver.now c.args.tally.now c.args.log.now c.requires.asked.has

pub solve-requires-clause-assumed : goal.solve-requires-clause-assumed
solve-requires-clause-assumed c =
    own_given c.parts_are_searched.ensures c.args.task.book.now c.args.task.ground.now c.requires.task c.args.task.variables.now c.args.solver.now c.args.log.now c.requires.asked c.args.set.now c.requires.set
    _ (c.deref.ensures.value ∙ c.in_ok-assumed.ensures)

pub returns-in-Sat-clause-goes_on : goal.returns-in-Sat-clause-goes_on
returns-in-Sat-clause-goes_on c =
    called c.args.solver.now c.solve.new.self c.args.tally.now c.solve.new.tally c.args.log.now c.solve.new.log c.solve.ensures.variables c.solve.ensures.problem c.solve.ensures.blocks c.solve.ensures.log c.solve.ensures.spends

pub returns-in-Sat-clause-says : goal.returns-in-Sat-clause-says
returns-in-Sat-clause-says c =
    given_stands c.parts_are_searched.ensures c.args.task.book.now c.args.task.ground.now c.requires.task c.args.task.variables.now c.args.solver.now c.args.log.now c.requires.asked c.args.set.now c.requires.set
    _ (c.deref.ensures.value ∙ c.in_ok-assumed.ensures) c.solve.new.self c.solve.ensures.problem c.solve.ensures.blocks c.in-Sat.ensures.answer

pub returns-in-Unsat-clause-goes_on : goal.returns-in-Unsat-clause-goes_on
returns-in-Unsat-clause-goes_on c =
    called c.args.solver.now c.solve.new.self c.args.tally.now c.solve.new.tally c.args.log.now c.solve.new.log c.solve.ensures.variables c.solve.ensures.problem c.solve.ensures.blocks c.solve.ensures.log c.solve.ensures.spends

pub returns-in-Unsat-clause-says : goal.returns-in-Unsat-clause-says
returns-in-Unsat-clause-says c =
    given_denied c.parts_are_searched.ensures c.args.task.book.now c.args.task.ground.now c.requires.task c.args.task.variables.now c.args.solver.now c.args.log.now c.requires.asked c.args.set.now c.requires.set
    _ (c.deref.ensures.value ∙ c.in_ok-assumed.ensures) c.solve.new.self c.solve.ensures.problem c.solve.ensures.blocks c.axioms_are_for_their_sheet.ensures
    c.solve.new.log c.in-Unsat.line c.in-Unsat.ensures.answer.0 c.in-Unsat.ensures.answer.1 c.in-Unsat.ensures.answer.2

pub returns-in-Spent-clause-goes_on : goal.returns-in-Spent-clause-goes_on
returns-in-Spent-clause-goes_on c =
    called c.args.solver.now c.solve.new.self c.args.tally.now c.solve.new.tally c.args.log.now c.solve.new.log c.solve.ensures.variables c.solve.ensures.problem c.solve.ensures.blocks c.solve.ensures.log c.solve.ensures.spends

pub returns-clause-goes_on : goal.returns-clause-goes_on
returns-clause-goes_on c =
    called c.args.solver.now c.solve.new.self c.args.tally.now c.solve.new.tally c.args.log.now c.solve.new.log c.solve.ensures.variables c.solve.ensures.problem c.solve.ensures.blocks c.solve.ensures.log c.solve.ensures.spends
