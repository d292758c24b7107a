use Rattle.std.proofs.Common.{None, subst}
use Rattle.pc_sheet.specs.Sheet.{Sheet}
use Rattle.pc_spreadsheet.specs.inside.Loading.{NotesLoad}
use Rattle.pc_spreadsheet.proofs.Editing.{lawful_on}
use Rattle.pc_spreadsheet.proofs.Loading.{load_spent}
use Rattle.pc_spreadsheet.proofs.load.open.Goals as goal

pub note_load-requires : goal.note_load-requires
note_load-requires c =
    let cause = rw c.in-Err-Spent.field-0-is at c.in-Err-Spent.ensures.refused in
    lawful_on c.in-Err-Spent.made c.args.book None c.args.budget c.in-Err-Spent.spending cause.1 cause.2

pub returns-in-Err-Spent : goal.returns-in-Err-Spent
returns-in-Err-Spent c =
    let cause = rw c.in-Err-Spent.field-0-is at c.in-Err-Spent.ensures.refused in
    load_spent c.args.budget c.args.book c.in-Err-Spent.spending c.args.notes.now c.note_load.new.notes c.note_load.result cause.0 cause.2
    (subst (λ (b : Sheet). NotesLoad b c.in-Err-Spent.spending c.args.notes.now c.note_load.new.notes c.note_load.result) cause.1 c.note_load.ensures)
