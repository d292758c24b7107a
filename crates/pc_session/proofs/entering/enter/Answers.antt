use Rattle.std.proofs.Common.{◌≡◌, List, true, sym, ◌∙◌, subst}
use Rattle.std.specs.List.{list_any}
use Rattle.std.proofs.lemmas.Bool.{false≢true}
use Rattle.pc_sheet.specs.declared.ids.Entry.{Entry}
use Rattle.pc_books.specs.Edits.{is_rival}
use Rattle.pc_session.specs.declared.taken.Taken.TheVariants as taken
use Rattle.pc_session.proofs.Changed.{entering_new, taking_some}
use Rattle.pc_theory.proofs.OwnParts.{cell_of}
use Rattle.pc_session.proofs.TakenEntries.{alone_by, alone_none, lacks_by}
use Rattle.pc_session.proofs.entering.enter.Goals as goal

-- ---- a new value

pub edit-requires-clause-change : goal.edit-requires-clause-change
edit-requires-clause-change c =
    entering_new c.entering_edits.ensures c.args.state.now.book c.args.entry c.entries.ensures.well_formed c.requires.entry
    (lacks_by c.stands.result c.args.entry c.args.state.now.book.entries c.entries.result.now c.if-not-stands.true c.stands.ensures c.entries.ensures.items)

pub returns-then-not-stands-clause-standing : goal.returns-then-not-stands-clause-standing
returns-then-not-stands-clause-standing c alone =
    absurd (lacks_by c.stands.result c.args.entry c.args.state.now.book.entries c.entries.result.now c.if-not-stands.true c.stands.ensures c.entries.ensures.items alone.0)

-- ---- a value that stands

pub edit-requires-then-takes_some-clause-change : goal.edit-requires-then-takes_some-clause-change
edit-requires-then-takes_some-clause-change c =
    let e = c.args.entry in
    taking_some c.args.state.now.book e.cell (taken.Rivals e) c.entries.ensures.well_formed (cell_of c.args.state.now.book.universe e c.requires.entry) (c.entering_edits.ensures c.args.state.now.book e).takes

pub returns-then-takes_some-clause-standing : goal.returns-then-takes_some-clause-standing
returns-then-takes_some-clause-standing c alone =
    let e = c.args.entry in
    absurd (false≢true (sym (alone_none e c.args.state.now.book.entries alone.1) ∙ subst (λ (es : List Entry). list_any (is_rival e) es ≡ true) c.entries-2.ensures.items (sym c.takes_some.ensures ∙ c.if-takes_some.true)))

pub returns-clause-book : goal.returns-clause-book
returns-clause-book c =
    let b = c.args.state.now.book in
    let e = c.args.entry in
    let alone = alone_by c.stands.result c.takes_some.result e b.entries c.entries.result.now c.entries-2.result.now c.if-not-stands.false c.stands.ensures c.entries.ensures.items c.if-takes_some.false c.takes_some.ensures c.entries-2.ensures.items in
    sym ((c.entering_edits.ensures b e).alone alone.0 alone.1)

pub returns-clause-spends : goal.returns-clause-spends
returns-clause-spends c not_alone =
    absurd (not_alone (alone_by c.stands.result c.takes_some.result c.args.entry c.args.state.now.book.entries c.entries.result.now c.entries-2.result.now
    c.if-not-stands.false c.stands.ensures c.entries.ensures.items c.if-takes_some.false c.takes_some.ensures c.entries-2.ensures.items))
