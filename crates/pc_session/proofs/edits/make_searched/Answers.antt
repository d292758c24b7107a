use Rattle.std.proofs.Common.{ℕ, Some, ap, refl, sym, ◌∙◌, subst}
use Rattle.pc_components.specs.View.{Kept}
use Rattle.pc_theory.specs.Spendings.{IsSpendingOf}
use Rattle.pc_sheet.specs.Entailment.{cell_sizes}
use Rattle.pc_theory.specs.Targets.{AreAsked}
use Rattle.pc_theory.specs.Theories.{TheoryView}
use Rattle.pc_session.specs.Arena.{IsWithinSpent}
use Rattle.pc_session.specs.Views.{counts_of}
use Rattle.pc_session.specs.inside.Changes.{as_list, IsFoundOf}
use Rattle.pc_session.specs.inside.States.{IsEdited, IsSameBeside}
use Rattle.pc_session.specs.inside.Taken.{takes}
use Rattle.pc_session.specs.declared.state.State.{State}
use Rattle.pc_session.proofs.Making.{asked_new, known_new, made, numbered_new, numbered_old}
use Rattle.pc_session.proofs.SpentBytes.{within_put}
use Rattle.pc_session.proofs.Viewing.{on_err}
use Rattle.pc_session.proofs.edits.make_searched.Goals as goal

pub find-requires-clause-theory : goal.find-requires-clause-theory
find-requires-clause-theory c = let a = c.args in known_new a.state.now a.change a.asked c.requires.asked c.requires.state c.make.new.book c.in_ok-make.ensures.book

pub find-requires-clause-asked : goal.find-requires-clause-asked
find-requires-clause-asked c =
    let a = c.args in
    subst (AreAsked (cell_sizes c.make.new.book.universe) a.state.now.theory.components a.asked.part) (sym c.deref.ensures.value) (asked_new a.state.now a.change a.asked c.requires.asked c.requires.state c.make.new.book c.in_ok-make.ensures.book)

pub find-requires-clause-part : goal.find-requires-clause-part
find-requires-clause-part c =
    let a = c.args in
    let is = c.requires.asked in
    (is.part, numbered_new a.state.now a.change a.asked is c.requires.state c.make.new.book c.in_ok-make.ensures.book is.part is.numbered, is.has)

pub find-requires-clause-left : goal.find-requires-clause-left
find-requires-clause-left c none p at =
    let a = c.args in
    let is = c.requires.asked in
    c.make.ensures.worlds none p (is.worlds none p (numbered_old a.state.now a.change a.asked is c.requires.state c.make.new.book c.in_ok-make.ensures.book p at))

pub put_in_place-requires : goal.put_in_place-requires
put_in_place-requires c =
    let a = c.args in
    let found = subst (λ ts. IsFoundOf c.make.new.book a.change.cell a.asked.part ts a.budget c.in_ok-edit.edit) c.deref.ensures.value c.in_ok-edit.ensures.edit in
    let s = a.state.now in (
      s.book,
      a.change.cell,
      takes a.change.taken,
      as_list a.change.added,
      a.budget,
      record { formed = c.requires.formed; session = c.requires.state; chosen = c.requires.chosen; is_edit = c.requires.change.is_edit; book = c.in_ok-make.ensures.book },
      made s a.change a.asked c.requires.asked c.requires.state c.make.new.book c.in_ok-make.ensures.book a.budget c.in_ok-edit.edit found,
    )

pub returns-clause-done : goal.returns-clause-done
returns-clause-done c =
    let a = c.args in
    let s = a.state.now in
    let found = subst (λ ts. IsFoundOf c.make.new.book a.change.cell a.asked.part ts a.budget c.in_ok-edit.edit) c.deref.ensures.value c.in_ok-edit.ensures.edit in
    subst (λ (t : ℕ). IsEdited (record s { trails = t }) a.change.cell (takes a.change.taken) (as_list a.change.added) a.budget c.put_in_place.new.state) c.find.ensures.trails
    (c.in_ok-put_in_place.ensures.done s.book a.change.cell (takes a.change.taken) (as_list a.change.added) a.budget
    (record { formed = c.requires.formed; session = c.requires.state; chosen = c.requires.chosen; is_edit = c.requires.change.is_edit; book = c.in_ok-make.ensures.book })
    (made s a.change a.asked c.requires.asked c.requires.state c.make.new.book c.in_ok-make.ensures.book a.budget c.in_ok-edit.edit found))

pub returns-in_err-make-clause-kept : goal.returns-in_err-make-clause-kept
returns-in_err-make-clause-kept c = on_err c.from_residual.result (record { rules = c.make.ensures.rules; rest = refl })

pub returns-in_err-edit-clause-kept : goal.returns-in_err-edit-clause-kept
returns-in_err-edit-clause-kept c =
    let over : ℕ → State = λ t. record c.args.state.now { trails = t } in
    on_err c.from_residual-in_err-edit.result (record { rules = c.make.ensures.rules; rest = ap over c.find.ensures.trails })

pub returns-in_err-put_in_place-clause-kept : goal.returns-in_err-put_in_place-clause-kept
returns-in_err-put_in_place-clause-kept c =
    let over : ℕ → State = λ t. record c.args.state.now { trails = t } in
    on_err c.from_residual-in_err-put_in_place.result (subst (IsSameBeside c.args.state.now) (sym c.in_err-put_in_place.ensures.kept) (record { rules = c.make.ensures.rules; rest = ap over c.find.ensures.trails }))

pub returns-clause-spent : goal.returns-clause-spent
returns-clause-spent c =
    let a = c.args in
    let s = a.state.now in
    let new = c.put_in_place.new.state in
    let edit = c.in_ok-edit.edit in
    let put = c.in_ok-put_in_place.ensures in
    let found = subst (λ ts. IsFoundOf c.make.new.book a.change.cell a.asked.part ts a.budget edit) c.deref.ensures.value c.in_ok-edit.ensures.edit in
    let done = put.done s.book a.change.cell (takes a.change.taken) (as_list a.change.added) a.budget
    (record { formed = c.requires.formed; session = c.requires.state; chosen = c.requires.chosen; is_edit = c.requires.change.is_edit; book = c.in_ok-make.ensures.book })
    (made s a.change a.asked c.requires.asked c.requires.state c.make.new.book c.in_ok-make.ensures.book a.budget edit found)
    in
    let spends = subst (λ b. IsSpendingOf b (Some a.change.cell) edit.spending) (c.in_ok-make.ensures.book ∙ sym done.sheet_is) c.in_ok-edit.ensures.edit.spends in
    let components : TheoryView → Kept = λ t. t.components in
    subst (λ k. IsWithinSpent new.book (Some a.change.cell) k (counts_of new.tally) s.cache.bytes new.cache.bytes) (ap components (sym c.put_in_place.ensures.theory))
    (within_put new.book (Some a.change.cell) s.theory.components new.tally edit.spending edit.patch s.cache.bytes new.cache.bytes spends put.tally put.exact c.in_ok-edit.ensures.bytes)
