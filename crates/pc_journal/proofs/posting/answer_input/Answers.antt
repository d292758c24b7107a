use Rattle.std.proofs.Common.{ap, Err}
use Rattle.pc_journal.specs.Course.{AnswersPosts}
use Rattle.pc_journal.proofs.Inputs.{stopped, goes_on}
use Rattle.pc_journal.proofs.posting.answer_input.Goals as goal

pub returns-in-Ok-clause-did : goal.returns-in-Ok-clause-did
returns-in-Ok-clause-did g c =
    let answers = c.answer_posts in
    goes_on (AnswersPosts g.M.Machine.Allows (c.args.machine.now, c.args.notes.now)) (c.args.machine.now, c.args.notes.now) (g.I.Source.left c.args.input.now) (g.I.Source.left c.take_journal.new.input) (g.I.Source.faults c.args.input.now) (g.I.Source.faults c.take_journal.new.input) (g.O.Sink.given c.args.out.now) (g.O.Sink.given answers.new.out) (g.O.Sink.faults c.args.out.now) (g.O.Sink.faults answers.new.out) answers.result
    c.in-Ok.journal (answers.new.machine, answers.new.notes) c.in-Ok.ensures.gives (c.in-Ok.ensures.kept (λ e. absurd (cc e))) (answers.ensures.did (g.I.Source.left c.take_journal.new.input) (g.I.Source.faults c.take_journal.new.input))

pub returns-in-Err-clause-did : goal.returns-in-Err-clause-did
returns-in-Err-clause-did g c =
    stopped (AnswersPosts g.M.Machine.Allows (c.args.machine.now, c.args.notes.now)) (c.args.machine.now, c.args.notes.now) (g.I.Source.left c.args.input.now) (g.I.Source.left c.take_journal.new.input) (g.I.Source.faults c.args.input.now) (g.I.Source.faults c.take_journal.new.input) (g.O.Sink.given c.args.out.now) (g.O.Sink.given c.tell_stop.new.out) (g.O.Sink.faults c.args.out.now) (g.O.Sink.faults c.tell_stop.new.out) c.tell_stop.result c.tell_stop.ensures.fault c.tell_stop.ensures.no_fault
    c.in-Err.stop c.in-Err.ensures.gives c.tell_stop.ensures.told (λ e. c.in-Err.ensures.cause (ap (λ s. Err s) e)) (λ other. c.in-Err.ensures.kept (λ e. other (cc e)))

pub answer_posts-requires : goal.answer_posts-requires
answer_posts-requires g c = c.in-Ok.ensures.gives.reads.journal
