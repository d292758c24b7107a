use Rattle.std.proofs.Common.{◌++◌, ◌∷◌, [], ◌≤◌, ◌+◌, List, length, get_or, sym, ◌∙◌, ap, arith, subst}
use Rattle.std.proofs.lemmas.List.{take_all}
use Rattle.pc_sheet.specs.Limits.{most_entries}
use Rattle.pc_sheet.specs.WellFormed.{entries_of}
use Rattle.pc_sheet.specs.declared.ids.Entry.{Entry}
use Rattle.pc_display.proofs.LineLemmas.{no_entry}
use Rattle.pc_display.proofs.OwnEntries.{own_more, own_room}
use Rattle.pc_display.proofs.cell_entries.entries_of.Goals as goal

pub push_if_of-requires : goal.push_if_of-requires
push_if_of-requires c =
    let es = c.args.book.now.entries in
    let i = c.loop-entry.entry-index in
    let there = ap (λ (xs : List Entry). length xs) c.entries-entry-items.ensures.items in
    let room = own_room c.args.cell es i no_entry (omega (arith, c.loop-entry-test.true, there)) most_entries (c.entries-entry-items.ensures.well_formed.entries.few c.args.cell) in
    let P : List Entry → List Entry → Type 0 = λ own all. length own + length (entries_of c.args.cell (get_or all i no_entry ∷ [])) ≤ most_entries in
    subst (λ all. P c.loop-entry.found all) (sym c.entries-entry-items.ensures.items) (subst (λ own. P own es) (sym c.loop-entry.invariant) room)

pub loop-entry-preserved : goal.loop-entry-preserved
loop-entry-preserved c =
    let es = c.args.book.now.entries in
    let i = c.loop-entry.entry-index in
    let there = ap (λ (xs : List Entry). length xs) c.entries-entry-items.ensures.items in
    let more = own_more c.args.cell es i no_entry (omega (arith, c.loop-entry-test.true, there)) in
    c.push_if_of.ensures
    ∙ ap (λ (all : List Entry). c.loop-entry.found ++ entries_of c.args.cell (get_or all i no_entry ∷ [])) c.entries-entry-items.ensures.items
    ∙ ap (λ (own : List Entry). own ++ entries_of c.args.cell (get_or es i no_entry ∷ [])) c.loop-entry.invariant
    ∙ sym more

pub returns-clause-exact : goal.returns-clause-exact
returns-clause-exact c =
    let es = c.args.book.now.entries in
    let there = ap (λ (xs : List Entry). length xs) c.entries-entry-items.ensures.items in
    c.loop-entry.invariant ∙ ap (entries_of c.args.cell) (take_all c.loop-entry.entry-index es (omega (arith, c.loop-entry-test.false, there)))
