use Rattle.std.proofs.Common.{refl, []}
use Rattle.pc_refusals.specs.Events.{streams}
use Rattle.pc_journal.specs.Course.{FromInput, MergeBoth, MergeText, text_is_journal}
use Rattle.pc_refusals.proofs.Dids.{ended, did_more}
use Rattle.pc_journal.proofs.FileTexts.{text_faulty}
use Rattle.pc_journal.proofs.merging.merge_text.Goals as goal

pub returns-in-Ok-clause-did : goal.returns-in-Ok-clause-did
returns-in-Ok-clause-did g c =
    let before = streams (g.I.Source.left c.args.input.now) (g.I.Source.faults c.args.input.now) (g.O.Sink.given c.args.out.now) (g.O.Sink.faults c.args.out.now) in
    did_more (FromInput (MergeBoth c.in-Ok.a) tt) (MergeText c.args.text.now) [] (λ (x : Unit {0}). x) (λ events stage u m. text_is_journal c.in-Ok.a c.in-Ok.ensures m) c.merge_input.result tt before before _ (λ o. refl) c.merge_input.ensures.did

pub returns-in-Err-clause-did : goal.returns-in-Err-clause-did
returns-in-Err-clause-did g c =
    ended (MergeText c.args.text.now) _ [] c.tell_fault.result tt (g.I.Source.left c.args.input.now) (g.I.Source.faults c.args.input.now) (g.O.Sink.given c.args.out.now) (g.O.Sink.given c.tell_fault.new.out) (g.O.Sink.faults c.args.out.now) (g.O.Sink.faults c.tell_fault.new.out)
    (text_faulty c.args.text.now c.in-Err.fault c.tell_fault.result (g.O.Sink.given c.args.out.now) (g.O.Sink.given c.tell_fault.new.out) c.in-Err.ensures c.tell_fault.ensures.told) (λ o. refl) c.tell_fault.ensures.fault c.tell_fault.ensures.no_fault
