use Rattle.std.proofs.Common.{ap, refl, Err}
use Rattle.pc_refusals.specs.Endings.{sheet_memory_text}
use Rattle.pc_refusals.specs.Events.{streams_of}
use Rattle.pc_refusals.proofs.Rans.{ran_from_file, ends_at_file}
use Rattle.pc_journal.specs.Course.{PostText, Posts, awaits_file, needs_file_memory, has_file}
use Rattle.pc_journal.proofs.posting.post_file.Goals as goal

pub returns-in-Ok-clause-ran : goal.returns-in-Ok-clause-ran
returns-in-Ok-clause-ran g c =
    let gives = c.in-Ok.ensures.gives in
    ran_from_file (g.H.Shelf.kept c.args.shelf.now) (g.H.Shelf.kept c.take_file.new.shelf) (g.H.Shelf.asked c.args.shelf.now) (g.H.Shelf.asked c.take_file.new.shelf) (g.H.Shelf.faults c.args.shelf.now) (g.H.Shelf.faults c.take_file.new.shelf) (Posts (g.M.Machine.IsSheet c.args.resources.budget) (g.M.Machine.RefusesText c.args.resources.budget) g.M.Machine.Allows c.args.file.now c.args.notes.now) 0 c.args.file.now c.in-Ok.text.items (PostText (g.M.Machine.IsSheet c.args.resources.budget) (g.M.Machine.RefusesText c.args.resources.budget) g.M.Machine.Allows c.args.notes.now c.in-Ok.text.items) (λ events stage x m. has_file c.in-Ok.text.items events gives.1 m refl) c.post_text.result c.post_text.new.notes (streams_of g.I.Source g.O.Sink c.args.input.now c.args.out.now) (streams_of g.I.Source g.O.Sink c.post_text.new.input c.post_text.new.out) c.take_file.ensures.kept (c.in-Ok.ensures.no_fault (λ e. absurd (cc))) gives.0
    (rw c.deref.ensures.value at c.post_text.ensures.did)

pub returns-in-Err-clause-ran : goal.returns-in-Err-clause-ran
returns-in-Err-clause-ran g c =
    let told = c.tell_file_stop in
    ends_at_file (g.H.Shelf.kept c.args.shelf.now) (g.H.Shelf.kept c.take_file.new.shelf) (g.H.Shelf.asked c.args.shelf.now) (g.H.Shelf.asked c.take_file.new.shelf) (g.H.Shelf.faults c.args.shelf.now) (g.H.Shelf.faults c.take_file.new.shelf) (Posts (g.M.Machine.IsSheet c.args.resources.budget) (g.M.Machine.RefusesText c.args.resources.budget) g.M.Machine.Allows c.args.file.now c.args.notes.now) 0
    sheet_memory_text c.args.file.now c.args.notes.now (awaits_file refl) (needs_file_memory refl) _ _ _ _ _ _ told.result told.ensures.fault told.ensures.no_fault c.take_file.ensures.kept c.in-Err.stop c.in-Err.ensures.gives (λ e. c.in-Err.ensures.fault (ap (λ s. Err s) e)) (λ other. c.in-Err.ensures.no_fault (λ e. other (cc e))) told.ensures.told
