use Rattle.std.proofs.Common.{◌∙◌}
use Rattle.pc_repairs.proofs.Cells.{set_values, target_value}
use Rattle.pc_repairs.proofs.Lacked.{here_there, set_here}
use Rattle.pc_repairs.proofs.WholeSearch.{none_spent}
use Rattle.pc_repairs.proofs.unimplied.add_lacking.Goals as goal

pub returns-in_err-push-clause-spends : goal.returns-in_err-push-clause-spends
returns-in_err-push-clause-spends c = none_spent c.args.task.book.now 1 c.args.tally.now c.args.log.now

pub returns-then-not-has_target-clause-spends : goal.returns-then-not-has_target-clause-spends
returns-then-not-has_target-clause-spends c = none_spent c.args.task.book.now 1 c.args.tally.now c.args.log.now

pub ask-requires-clause-set : goal.ask-requires-clause-set
ask-requires-clause-set c =
    set_values c.args.task.book.now c.args.task.ground.now c.args.task.numbers.now c.requires.task c.args.sets.now c.requires.exact _
    (here_there c.args.task.book.now c.args.sets.now c.requires.exact c.args.target c.args.place c.requires.place) c.entries-set.result.now
    (c.entries-set.ensures.exact ∙ set_here c.args.task.book.now c.args.sets.now c.requires.exact c.args.target c.args.place c.requires.place)

pub ask-requires-clause-target : goal.ask-requires-clause-target
ask-requires-clause-target c = target_value c.args.task.book.now c.args.task.ground.now c.args.task.numbers.now c.requires.task c.args.target c.requires.target
