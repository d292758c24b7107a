use Rattle.std.proofs.Common.{◌∷◌, [], IfErr, sym, subst}
use Rattle.pc_justify_laws.specs.Edits.{takes_none}
use Rattle.pc_books.specs.Edits.{also_entered}
use Rattle.pc_sheet.specs.Sheet.{Sheet}
use Rattle.pc_session.specs.Causes.{IsEntryCause}
use Rattle.pc_session.proofs.Changed.{adding_new}
use Rattle.pc_session.proofs.TakenEntries.{lacks_by}
use Rattle.pc_session.proofs.Viewing.{book_ok}
use Rattle.pc_session.proofs.entering.also.Goals as goal

pub edit-requires-clause-change : goal.edit-requires-clause-change
edit-requires-clause-change c =
    adding_new c.args.state.now.book c.args.entry c.entries.ensures.well_formed c.requires.entry
    (lacks_by c.stands.result c.args.entry c.args.state.now.book.entries c.entries.result.now c.if-stands.false c.stands.ensures c.entries.ensures.items) c.requires.place

pub returns-clause-book : goal.returns-clause-book
returns-clause-book c =
    let s = c.args.state.now in
    let e = c.args.entry in
    let lacks = lacks_by c.stands.result e s.book.entries c.entries.result.now c.if-stands.false c.stands.ensures c.entries.ensures.items in
    book_ok c.edit.result e.cell takes_none (e ∷ []) c.args.budget s c.edit.new.state (also_entered s.book e) ((c.adding_edits.ensures s.book e).adds lacks) c.edit.ensures.done

pub returns-clause-refused : goal.returns-clause-refused
returns-clause-refused c =
    let s = c.args.state.now in
    let e = c.args.entry in
    let lacks = lacks_by c.stands.result e s.book.entries c.entries.result.now c.if-stands.false c.stands.ensures c.entries.ensures.items in
    subst (λ (made : Sheet). IfErr c.edit.result (IsEntryCause made e.cell c.args.budget)) (sym ((c.adding_edits.ensures s.book e).adds lacks)) c.edit.ensures.refused
