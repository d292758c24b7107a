use Rattle.std.proofs.Common.{◌≡◌, Contains, Ok, Some, IfErr, OnOk, sym, subst}
use Rattle.pc_sheet.specs.WellFormed.{IsEntryOf}
use Rattle.pc_sheet.specs.declared.ids.Entry.{Entry}
use Rattle.pc_books.specs.Edits.{also_entered}
use Rattle.pc_justify_laws.specs.Edits.{takes_none}
use Rattle.pc_session.specs.Answers.{HasPlaceFor}
use Rattle.pc_session.specs.Causes.{IsEntryCause}
use Rattle.pc_session.specs.inside.States.{viewed}
use Rattle.pc_session.specs.Views.{IsTallyOf, SessionView, counts_of, none_spent}
use Rattle.pc_session.proofs.SeenEdits.{edit_seen, IsSeenEdit}
use Rattle.pc_session.proofs.Viewing.{but_seen, kept_after}
use Rattle.pc_session.proofs.session.Session.also.Goals as goal

pub also-requires-clause-entry : goal.also-requires-clause-entry
also-requires-clause-entry c =
    let e : Entry = record { cell = c.args.cell; value = c.args.value } in
    let P : SessionView → Type 0 = λ v. IsEntryOf v.sheet.universe e in
    subst P (sym c.self.view_is) c.requires.entry

pub also-requires-clause-place : goal.also-requires-clause-place
also-requires-clause-place c =
    let e : Entry = record { cell = c.args.cell; value = c.args.value } in
    let P : SessionView → Type 0 = λ v. HasPlaceFor v.sheet.entries e in
    subst P (sym c.self.view_is) c.requires.place

pub invariant_of-self : goal.invariant_of-self
invariant_of-self c = kept_after c.also.result c.self.inside.state c.also.new.state c.also.ensures.left (λ left. left.state) c.also.ensures.chosen c.also.ensures.kept c.self.invariant

-- what every edit of a cell's entries says
said : (c : goal.After-also) → IsSeenEdit c.also.result c.args.cell takes_none c.args.self.now (viewed c.self.inside.budget c.also.new.state)
said c =
    edit_seen c.also.result c.args.cell takes_none c.self.inside.budget c.self.inside.state c.also.new.state c.args.self.now c.self.view_is c.also.ensures.theory c.also.ensures.left c.also.ensures.kept

pub returns-clause-unchanged : goal.returns-clause-unchanged
returns-clause-unchanged c = (said c).unchanged

pub returns-clause-parts : goal.returns-clause-parts
returns-clause-parts c = (said c).parts

pub returns-clause-budget : goal.returns-clause-budget
returns-clause-budget c = (said c).budget

pub returns-clause-refused : goal.returns-clause-refused
returns-clause-refused c =
    let e : Entry = record { cell = c.args.cell; value = c.args.value } in
    let o = c.self.inside.state in
    let P : SessionView → Type 0 = λ v. IfErr c.also.result (IsEntryCause (also_entered v.sheet e) c.args.cell v.budget) in
    subst P c.self.view_is c.also.ensures.refused

pub returns-clause-sheet : goal.returns-clause-sheet
returns-clause-sheet c =
    let e : Entry = record { cell = c.args.cell; value = c.args.value } in
    let o = c.self.inside.state in
    let P : SessionView → Type 0 = λ v. OnOk c.also.result (c.also.new.state.book ≡ also_entered v.sheet e) in
    subst P c.self.view_is c.also.ensures.book

pub returns-clause-spends : goal.returns-clause-spends
returns-clause-spends c =
    let e : Entry = record { cell = c.args.cell; value = c.args.value } in
    let o = c.self.inside.state in
    let P : SessionView → Type 0 = λ v. OnOk c.also.result ((¬ Contains v.sheet.entries e) → IsTallyOf c.also.new.state.book (Some c.args.cell) v.budget (counts_of c.also.new.state.tally)) in
    subst P c.self.view_is c.also.ensures.spends

pub returns-clause-standing : goal.returns-clause-standing
returns-clause-standing c =
    let e : Entry = record { cell = c.args.cell; value = c.args.value } in
    let o = c.self.inside.state in
    let P : SessionView → Type 0 = λ v. Contains v.sheet.entries e → (c.also.result ≡ Ok tt) × (viewed c.self.inside.budget c.also.new.state ≡ record v { tally = none_spent v.budget }) in
    subst P c.self.view_is (λ standing. let told = c.also.ensures.standing standing in (told.0, but_seen c.self.inside.budget o.book o c.also.new.state told.1))

pub returns-clause-stays : goal.returns-clause-stays
returns-clause-stays c = (said c).stays

pub returns-clause-others : goal.returns-clause-others
returns-clause-others c = (said c).others

pub returns-clause-steps : goal.returns-clause-steps
returns-clause-steps c = (said c).steps

pub returns-clause-arena : goal.returns-clause-arena
returns-clause-arena c = (said c).arena

pub returns-clause-bytes : goal.returns-clause-bytes
returns-clause-bytes c = (said c).bytes
