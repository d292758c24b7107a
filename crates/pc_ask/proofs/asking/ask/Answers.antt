use Rattle.pc_ask.proofs.Answered.{nothing_asked}
use Rattle.pc_ask.proofs.asking.ask.Goals as goal

pub returns-in_err-push_rule-clause-search : goal.returns-in_err-push_rule-clause-search
returns-in_err-push_rule-clause-search g c = (nothing_asked (g.C.Choices.sheet c.args.view.now) c.args.question.book.now c.args.tally.now c.args.log.now c.requires.new_log).within

pub returns-in_err-push_rule-clause-whole : goal.returns-in_err-push_rule-clause-whole
returns-in_err-push_rule-clause-whole g c = (nothing_asked (g.C.Choices.sheet c.args.view.now) c.args.question.book.now c.args.tally.now c.args.log.now c.requires.new_log).whole

pub returns-in_err-push_rule-clause-part : goal.returns-in_err-push_rule-clause-part
returns-in_err-push_rule-clause-part g c = (nothing_asked (g.C.Choices.sheet c.args.view.now) c.args.question.book.now c.args.tally.now c.args.log.now c.requires.new_log).part
