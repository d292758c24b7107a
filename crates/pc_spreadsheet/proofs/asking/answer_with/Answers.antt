use Rattle.std.proofs.Common.{ap, refl, subst, sym}
use Rattle.pc_session.specs.Views.{SessionView}
use Rattle.pc_spreadsheet.specs.inside.Asking.{Answers, by_want}
use Rattle.pc_spreadsheet.proofs.Answering.{made_with}
use Rattle.pc_spreadsheet.proofs.asking.answer_with.Goals as goal

pub book_with-requires : goal.book_with-requires
book_with-requires c = c.requires.formed

pub answer_by-requires : goal.answer_by-requires
answer_by-requires c =
    let same = sym (ap (λ (s : SessionView). s.sheet) c.in-Ok.ensures.same) in
    (c.requires.denies.0, made_with c.book_with.new.self.sheet c.args.session.now.sheet c.in-Ok.book c.args.rule c.requires.denies.0 same c.in-Ok.ensures.book c.requires.denies.1)

pub returns-in-Ok-clause-answers : goal.returns-in-Ok-clause-answers
returns-in-Ok-clause-answers c = λ f is.
    let same = sym (ap (λ (s : SessionView). s.sheet) c.in-Ok.ensures.same) in
    subst (λ (s : SessionView). Answers s.budget s.sheet f c.args.notes.now c.answer_by.new.notes c.answer_by.result) c.in-Ok.ensures.same
    (c.answer_by.ensures.answers f (made_with c.book_with.new.self.sheet c.args.session.now.sheet c.in-Ok.book c.args.rule f same c.in-Ok.ensures.book is))

pub returns-in-Err-clause-answers : goal.returns-in-Err-clause-answers
returns-in-Err-clause-answers c = λ f is. by_want refl
