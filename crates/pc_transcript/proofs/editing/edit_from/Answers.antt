use Rattle.std.proofs.Common.{ap, refl, Err}
use Rattle.pc_port.specs.declared.TheConstants.{CHUNK}
use Rattle.pc_refusals.specs.Endings.{sheet_memory_text}
use Rattle.pc_refusals.proofs.Rans.{ends_at_file}
use Rattle.pc_transcript.specs.Course.{Edit, needs_memory, awaits_file}
use Rattle.pc_transcript.proofs.EditCourses.{edits_from}
use Rattle.pc_transcript.proofs.editing.edit_from.Goals as goal

pub returns-in-Ok-clause-ran : goal.returns-in-Ok-clause-ran
returns-in-Ok-clause-ran g c =
    let gives = c.in-Ok.ensures.gives in
    edits_from (g.M.Machine.IsSheet c.args.resources.budget) (g.M.Machine.RefusesText c.args.resources.budget) g.M.Machine.Allows c.args.notes.now c.args.file.now (g.H.Shelf.kept c.args.shelf.now) (g.H.Shelf.kept c.take_file.new.shelf) (g.H.Shelf.asked c.args.shelf.now) (g.H.Shelf.asked c.take_file.new.shelf) (g.H.Shelf.faults c.args.shelf.now) (g.H.Shelf.faults c.take_file.new.shelf) c.open.result c.open.new.notes c.in-Ok.sheet.items c.args.reader.now.held (g.I.Source.left c.args.input.now) (g.I.Source.left c.open.new.input) _ _ _ _ _ _ c.requires.held c.take_file.ensures.kept (c.in-Ok.ensures.no_fault (λ e. absurd (cc))) gives.0 gives.1
    (rw c.deref.ensures.value at c.open.ensures.goes_on)

pub returns-in-Err-clause-ran : goal.returns-in-Err-clause-ran
returns-in-Err-clause-ran g c =
    let told = c.tell_file_stop in
    ends_at_file (g.H.Shelf.kept c.args.shelf.now) (g.H.Shelf.kept c.take_file.new.shelf) (g.H.Shelf.asked c.args.shelf.now) (g.H.Shelf.asked c.take_file.new.shelf) (g.H.Shelf.faults c.args.shelf.now) (g.H.Shelf.faults c.take_file.new.shelf) (Edit (g.M.Machine.IsSheet c.args.resources.budget) (g.M.Machine.RefusesText c.args.resources.budget) g.M.Machine.Allows c.args.file.now c.args.notes.now) CHUNK
    sheet_memory_text c.args.file.now c.args.notes.now (awaits_file refl) (needs_memory refl) _ _ _ _ _ _ told.result told.ensures.fault told.ensures.no_fault c.take_file.ensures.kept c.in-Err.stop c.in-Err.ensures.gives (λ e. c.in-Err.ensures.fault (ap (λ s. Err s) e)) (λ other. c.in-Err.ensures.no_fault (λ e. other (cc e))) told.ensures.told
