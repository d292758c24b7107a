use Rattle.std.proofs.Common.{◌∙◌, ap}
use Rattle.pc_ground.specs.Grounded.{grounded}
use Rattle.pc_ask.proofs.Answered.{nothing_asked}
use Rattle.pc_ask.proofs.asking.ask_grounded.Goals as goal

pub returns-in_err-chosen-clause-search : goal.returns-in_err-chosen-clause-search
returns-in_err-chosen-clause-search g c = nothing_asked (g.C.Choices.sheet c.args.view.now) c.args.question.book.now c.args.tally.now c.args.log.now c.requires.new_log

pub returns-clause-says : goal.returns-clause-says
returns-clause-says g c f is = c.in_ok-answer.ensures (g.C.Choices.sheet c.args.view.now) f c.search_book.new.log (c.requires.ground ∙ ap grounded is) (c.in_ok-found.ensures.says f is)
