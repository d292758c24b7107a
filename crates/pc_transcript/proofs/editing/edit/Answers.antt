use Rattle.std.proofs.Common.{refl}
use Rattle.pc_port.specs.declared.TheConstants.{CHUNK}
use Rattle.pc_refusals.specs.Endings.{sheet_memory_text}
use Rattle.pc_refusals.proofs.Rans.{lacks_memory}
use Rattle.pc_transcript.specs.Course.{Edit, needs_memory, awaits_file}
use Rattle.pc_transcript.proofs.editing.edit.Goals as goal

pub returns-in_default-clause-ran : goal.returns-in_default-clause-ran
returns-in_default-clause-ran g c =
    let lacks = c.tell_no_memory_for_sheet in
    lacks_memory (g.H.Shelf.kept c.args.shelf.now) (g.H.Shelf.kept c.args.shelf.now) (g.H.Shelf.asked c.args.shelf.now) (g.H.Shelf.asked c.args.shelf.now) (g.H.Shelf.faults c.args.shelf.now) (g.H.Shelf.faults c.args.shelf.now) (Edit (g.M.Machine.IsSheet c.args.resources.budget) (g.M.Machine.RefusesText c.args.resources.budget) g.M.Machine.Allows c.args.file.now c.args.notes.now) CHUNK
    sheet_memory_text c.args.file.now c.args.notes.now (awaits_file refl) (needs_memory refl) _ _ _ _ _ _ lacks.result lacks.ensures.fault lacks.ensures.no_fault refl refl refl lacks.ensures.told
