use Rattle.std.proofs.Common.{ap, Err}
use Rattle.pc_journal.specs.Course.{MergeBoth}
use Rattle.pc_journal.proofs.Inputs.{stopped, ends_from}
use Rattle.pc_journal.proofs.merging.merge_input.Goals as goal

pub returns-in-Ok-clause-did : goal.returns-in-Ok-clause-did
returns-in-Ok-clause-did g c =
    ends_from (MergeBoth c.args.a.now) tt (g.I.Source.left c.args.input.now) (g.I.Source.left c.take_journal.new.input) (g.I.Source.faults c.args.input.now) (g.I.Source.faults c.take_journal.new.input) (g.O.Sink.given c.args.out.now) (g.O.Sink.given c.merge_both.new.out) (g.O.Sink.faults c.args.out.now) (g.O.Sink.faults c.merge_both.new.out) c.merge_both.result c.merge_both.ensures.fault c.merge_both.ensures.no_fault
    c.in-Ok.b tt c.in-Ok.ensures.gives (c.in-Ok.ensures.kept (λ e. absurd (cc e))) c.merge_both.ensures.ends

pub returns-in-Err-clause-did : goal.returns-in-Err-clause-did
returns-in-Err-clause-did g c =
    stopped (MergeBoth c.args.a.now) tt (g.I.Source.left c.args.input.now) (g.I.Source.left c.take_journal.new.input) (g.I.Source.faults c.args.input.now) (g.I.Source.faults c.take_journal.new.input) (g.O.Sink.given c.args.out.now) (g.O.Sink.given c.tell_stop.new.out) (g.O.Sink.faults c.args.out.now) (g.O.Sink.faults c.tell_stop.new.out) c.tell_stop.result c.tell_stop.ensures.fault c.tell_stop.ensures.no_fault
    c.in-Err.stop c.in-Err.ensures.gives c.tell_stop.ensures.told (λ e. c.in-Err.ensures.cause (ap (λ s. Err s) e)) (λ other. c.in-Err.ensures.kept (λ e. other (cc e)))
