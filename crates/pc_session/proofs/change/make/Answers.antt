use Rattle.std.proofs.Common.{[], ◌∷◌, ap, sym, ◌∙◌, subst}
use Rattle.std.proofs.lemmas.Result.{on_ok_weaker}
use Rattle.pc_justify_laws.specs.Edits.{edited}
use Rattle.pc_books.specs.Edits.{also_entered}
use Rattle.pc_sheet.specs.Sheet.{Sheet}
use Rattle.pc_sheet.specs.WellFormed.{IsWellFormed}
use Rattle.pc_session.specs.inside.Changes.{as_list}
use Rattle.pc_session.specs.inside.Taken.{takes}
use Rattle.pc_session.proofs.TakenEntries.{added_last}
use Rattle.pc_session.proofs.change.make.Goals as goal

pub also_entry-requires : goal.also_entry-requires
also_entry-requires c =
    let a = c.args in
    let gone = takes a.change.taken in
    let e = c.in-Some.entry in
    let formed : IsWellFormed (edited a.book.now gone (e ∷ [])) = subst (λ o. IsWellFormed (edited a.book.now gone (as_list o))) c.in-Some.is c.requires.formed in
    subst IsWellFormed (sym (ap (λ (b : Sheet). also_entered b e) c.take_away.ensures.book ∙ added_last a.book.now gone e formed.entries.distinct)) formed

pub returns-in-Some-clause-book : goal.returns-in-Some-clause-book
returns-in-Some-clause-book c =
    let a = c.args in
    let gone = takes a.change.taken in
    let e = c.in-Some.entry in
    let formed : IsWellFormed (edited a.book.now gone (e ∷ [])) = subst (λ o. IsWellFormed (edited a.book.now gone (as_list o))) c.in-Some.is c.requires.formed in
    on_ok_weaker c.also_entry.result
    (λ is. is ∙ (ap (λ (b : Sheet). also_entered b e) c.take_away.ensures.book ∙ (added_last a.book.now gone e formed.entries.distinct ∙ sym (ap (λ o. edited a.book.now gone (as_list o)) c.in-Some.is))))
    c.also_entry.ensures.ok
