use Rattle.std.proofs.Common.{ap, refl, Err}
use Rattle.pc_refusals.specs.Endings.{memory_text}
use Rattle.pc_refusals.specs.Events.{streams_of}
use Rattle.pc_refusals.proofs.Rans.{ran_from_file, ends_at_file}
use Rattle.pc_journal.specs.Course.{Merge, MergeText, awaits_file, needs_file_memory, has_file}
use Rattle.pc_journal.proofs.merging.merge_file.Goals as goal

pub returns-in-Ok-clause-ran : goal.returns-in-Ok-clause-ran
returns-in-Ok-clause-ran g c =
    let gives = c.in-Ok.ensures.gives in
    ran_from_file (g.H.Shelf.kept c.args.shelf.now) (g.H.Shelf.kept c.take_file.new.shelf) (g.H.Shelf.asked c.args.shelf.now) (g.H.Shelf.asked c.take_file.new.shelf) (g.H.Shelf.faults c.args.shelf.now) (g.H.Shelf.faults c.take_file.new.shelf) (Merge c.args.file.now) 0 c.args.file.now c.in-Ok.text.items (MergeText c.in-Ok.text.items) (λ events stage u m. has_file c.in-Ok.text.items events gives.1 m refl) c.merge_text.result tt (streams_of g.I.Source g.O.Sink c.args.input.now c.args.out.now) (streams_of g.I.Source g.O.Sink c.merge_text.new.input c.merge_text.new.out) c.take_file.ensures.kept (c.in-Ok.ensures.no_fault (λ e. absurd (cc))) gives.0
    (rw c.deref.ensures.value at c.merge_text.ensures.did)

pub returns-in-Err-clause-ran : goal.returns-in-Err-clause-ran
returns-in-Err-clause-ran g c =
    let told = c.tell_file_stop in
    ends_at_file (g.H.Shelf.kept c.args.shelf.now) (g.H.Shelf.kept c.take_file.new.shelf) (g.H.Shelf.asked c.args.shelf.now) (g.H.Shelf.asked c.take_file.new.shelf) (g.H.Shelf.faults c.args.shelf.now) (g.H.Shelf.faults c.take_file.new.shelf) (Merge c.args.file.now) 0
    memory_text c.args.file.now tt (awaits_file refl) (needs_file_memory refl) _ _ _ _ _ _ told.result told.ensures.fault told.ensures.no_fault c.take_file.ensures.kept c.in-Err.stop c.in-Err.ensures.gives (λ e. c.in-Err.ensures.fault (ap (λ s. Err s) e)) (λ other. c.in-Err.ensures.no_fault (λ e. other (cc e))) told.ensures.told
