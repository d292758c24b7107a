use Rattle.std.proofs.Common.{refl}
use Rattle.pc_spreadsheet.specs.inside.Asking.{by_lack, by_weight, by_want}
use Rattle.pc_spreadsheet.proofs.Answering.{ask_is_spent, ask_noted, certified_so, light_by, heavy_by}
use Rattle.pc_spreadsheet.proofs.Proving.{none_is_spent, is_spent_whole}
use Rattle.pc_spreadsheet.proofs.asking.answer_by.Goals as goal

pub certify-requires-clause-lawful : goal.certify-requires-clause-lawful
certify-requires-clause-lawful c = c.in-Ok-Some.ensures.whole.1.lawful

pub certify-requires-clause-answer : goal.certify-requires-clause-answer
certify-requires-clause-answer c = rw c.in-Ok-Some.field-0-is (c.args.session.now.sheet, c.requires.0, c.requires.1, rw c.in-Ok-Some.field-0-is at c.in-Ok-Some.ensures.says c.requires.0 c.requires.1)

pub returns-in-Ok-Some-clause-answers : goal.returns-in-Ok-Some-clause-answers
returns-in-Ok-Some-clause-answers c = λ f is.
    certified_so c.args.session.now.budget c.args.session.now.sheet f c.args.notes.now c.certify.result (light_by c.args.session.now.sheet f c.args.book is c.in-Ok-Some.ensures.large)
    (c.certify.ensures c.args.session.now.sheet f is (rw c.in-Ok-Some.field-0-is (rw c.in-Ok-Some.field-0-is at c.in-Ok-Some.ensures.says f is)))

pub returns-in-Ok-None-clause-answers : goal.returns-in-Ok-None-clause-answers
returns-in-Ok-None-clause-answers c = λ f is. by_lack c.args.book (light_by c.args.session.now.sheet f c.args.book is c.in-Ok-None.ensures.large) is (rw c.in-Ok-None.field-0-is at c.in-Ok-None.ensures.says f is) refl

pub returns-in-Err-TooLarge-clause-answers : goal.returns-in-Err-TooLarge-clause-answers
returns-in-Err-TooLarge-clause-answers c = λ f is. by_weight (heavy_by c.args.session.now.sheet f c.args.book is (rw c.in-Err-TooLarge.field-0-is at c.in-Err-TooLarge.ensures.stop)) refl

pub note_whole-requires : goal.note_whole-requires
note_whole-requires c =
    let whole = c.in-Err-Spent.ensures.whole in
    let spent = ask_is_spent c.args.book c.budget.result whole.0 c.ask.new.log _ c.ask.new.tally whole.1 (none_is_spent c.args.book c.budget.result _ refl refl refl refl) in
    is_spent_whole c.args.book c.budget.result whole.0 _ c.ask.new.tally spent (rw c.in-Err-Spent.field-0-is at c.in-Err-Spent.ensures.stop).1

pub returns-in-Err-Spent-clause-answers : goal.returns-in-Err-Spent-clause-answers
returns-in-Err-Spent-clause-answers c = λ f is.
    let whole = c.in-Err-Spent.ensures.whole in
    let stop = rw c.in-Err-Spent.field-0-is at c.in-Err-Spent.ensures.stop in
    ask_noted c.args.session.now.sheet f c.args.book c.args.session.now.budget whole.0 c.ask.new.log _ c.ask.new.tally c.args.notes.now c.note_whole.new.notes c.note_whole.result is (light_by c.args.session.now.sheet f c.args.book is stop.0) whole.1
    (none_is_spent c.args.book c.args.session.now.budget _ refl refl refl c.budget.ensures) (λ entries sets sizes. c.in-Err-Spent.ensures.search f entries sets is sizes) stop.1 c.note_whole.ensures

pub returns-clause-answers : goal.returns-clause-answers
returns-clause-answers c = λ f is. by_want refl
