use Rattle.std.proofs.Common.{◌≡◌, true, List, sym, ◌∙◌, subst}
use Rattle.std.specs.List.{list_any}
use Rattle.pc_sheet.specs.declared.ids.Entry.{Entry}
use Rattle.pc_session.specs.inside.Taken.{takes}
use Rattle.pc_session.proofs.Changed.{taking_some}
use Rattle.pc_session.proofs.Resting.{taken_cell}
use Rattle.pc_session.proofs.TakenEntries.{some_not_none}
use Rattle.pc_session.proofs.removing.remove.Goals as goal

pub rests_on-requires-clause-cell : goal.rests_on-requires-clause-cell
rests_on-requires-clause-cell c =
    let gone = takes c.args.taken in
    taken_cell c.args.state.now.book c.args.cell gone c.entries.ensures.well_formed c.requires.taken
    (subst (λ (es : List Entry). list_any gone es ≡ true) c.entries.ensures.items (sym c.takes_some.ensures ∙ c.if-not-takes_some.false))

pub edit-requires-clause-change : goal.edit-requires-clause-change
edit-requires-clause-change c =
    let gone = takes c.args.taken in
    taking_some c.args.state.now.book c.args.cell c.args.taken c.entries.ensures.well_formed
    (taken_cell c.args.state.now.book c.args.cell gone c.entries.ensures.well_formed c.requires.taken
    (subst (λ (es : List Entry). list_any gone es ≡ true) c.entries.ensures.items (sym c.takes_some.ensures ∙ c.if-not-takes_some.false)))
    c.requires.taken

pub returns-then-rests_on-clause-none : goal.returns-then-rests_on-clause-none
returns-then-rests_on-clause-none c none =
    let gone = takes c.args.taken in
    absurd (some_not_none gone c.args.state.now.book.entries (subst (λ (es : List Entry). list_any gone es ≡ true) c.entries.ensures.items (sym c.takes_some.ensures ∙ c.if-not-takes_some.false)) none)

pub remove_in_place-requires-clause-cell : goal.remove_in_place-requires-clause-cell
remove_in_place-requires-clause-cell c =
    let gone = takes c.args.taken in
    taken_cell c.args.state.now.book c.args.cell gone c.entries.ensures.well_formed c.requires.taken
    (subst (λ (es : List Entry). list_any gone es ≡ true) c.entries.ensures.items (sym c.takes_some.ensures ∙ c.if-not-takes_some.false))

pub returns-clause-none : goal.returns-clause-none
returns-clause-none c none =
    let gone = takes c.args.taken in
    absurd (some_not_none gone c.args.state.now.book.entries (subst (λ (es : List Entry). list_any gone es ≡ true) c.entries.ensures.items (sym c.takes_some.ensures ∙ c.if-not-takes_some.false)) none)
