use Rattle.std.proofs.Common.{refl, []}
use Rattle.pc_refusals.specs.Events.{streams}
use Rattle.pc_journal.specs.Course.{FromInput, AnswersPosts, PostText, has_sheet}
use Rattle.pc_refusals.proofs.Dids.{ended, did_more}
use Rattle.pc_journal.proofs.FileTexts.{no_sheet}
use Rattle.pc_journal.proofs.posting.post_text.Goals as goal

pub returns-in-Ok-clause-did : goal.returns-in-Ok-clause-did
returns-in-Ok-clause-did g c =
    let before = streams (g.I.Source.left c.args.input.now) (g.I.Source.faults c.args.input.now) (g.O.Sink.given c.args.out.now) (g.O.Sink.faults c.args.out.now) in
    did_more (FromInput (AnswersPosts g.M.Machine.Allows (c.in-Ok.machine, c.args.notes.now)) (c.in-Ok.machine, c.args.notes.now)) (PostText (g.M.Machine.IsSheet c.args.resources.budget) (g.M.Machine.RefusesText c.args.resources.budget) g.M.Machine.Allows c.args.notes.now c.args.text.now) []
    (λ pair. pair.1) (λ events stage pair m. has_sheet c.in-Ok.machine pair.0 c.in-Ok.ensures.0 m) c.answer_input.result (c.answer_input.new.machine, c.answer_input.new.notes) before before _ (λ o. refl) (rw (c.in-Ok.ensures.1) at c.answer_input.ensures.did)

pub returns-in-Err-clause-did : goal.returns-in-Err-clause-did
returns-in-Err-clause-did g c =
    let tells = c.tell_stop in
    ended (PostText (g.M.Machine.IsSheet c.args.resources.budget) (g.M.Machine.RefusesText c.args.resources.budget) g.M.Machine.Allows c.args.notes.now c.args.text.now) _ [] tells.result c.load.new.notes (g.I.Source.left c.args.input.now) (g.I.Source.faults c.args.input.now) (g.O.Sink.given c.args.out.now) (g.O.Sink.given tells.new.out) (g.O.Sink.faults c.args.out.now) (g.O.Sink.faults tells.new.out)
    (no_sheet (g.M.Machine.IsSheet c.args.resources.budget) (g.M.Machine.RefusesText c.args.resources.budget) g.M.Machine.Allows g.M.Machine.IsProof c.args.notes.now c.args.text.now c.in-Err.stop c.load.new.notes tells.result (g.O.Sink.given c.args.out.now) (g.O.Sink.given tells.new.out) c.in-Err.ensures tells.ensures.told) (λ o. refl) tells.ensures.fault tells.ensures.no_fault
