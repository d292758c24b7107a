use Rattle.std.proofs.Common.{ℕ, List, map, sym, subst}
use Rattle.pc_syntax.specs.Tree.{asks_ask, formula_of}
use Rattle.pc_sheet.specs.Views.{rule_of}
use Rattle.pc_sheet.specs.WellFormed.{IsWellFormed}
use Rattle.pc_books.specs.RuleNames.{IsNewName, IsRuleAt}
use Rattle.pc_session.specs.Views.{SessionView}
use Rattle.pc_spreadsheet.specs.Commands.{Obeys, state_of}
use Rattle.pc_spreadsheet.proofs.Answering.{answered_so, name_taken_in, new_in, question_formed}
use Rattle.pc_spreadsheet.proofs.Telling.{refused_in}
use Rattle.pc_spreadsheet.proofs.asking.answer.Goals as goal

pub returns-in-Err : goal.returns-in-Err
returns-in-Err c =
    refused_in (state_of c.args.session.now, c.args.notes.now) c.book-book.result.now (asks_ask (formula_of c.args.tree.now)) c.in-Err.fault c.refuse.result (sym c.book-book.ensures) tt c.in-Err.ensures c.refuse.ensures

pub returns-in-Some : goal.returns-in-Some
returns-in-Some c =
    let st = c.in-Ok.ensures.0 in
    name_taken_in c.args.session.now c.args.notes.now c.book-book.result.now (formula_of c.args.tree.now) st c.in-Ok.rule _ c.in-Some.field-0 c.book-book.ensures c.rules.ensures c.in-Ok.ensures.1 c.in-Ok.ensures.2
    (subst (λ (n : List ℕ). IsRuleAt (map rule_of c.rules.result.now) n c.in-Some.field-0) c.as_str.ensures.text c.in-Some.ensures.found)

-- the rule is one that may be added
pub answer_with-requires-clause-denies : goal.answer_with-requires-clause-denies
answer_with-requires-clause-denies c = (c.in-Ok.ensures.0, c.in-Ok.ensures.1)

pub answer_with-requires-clause-formed : goal.answer_with-requires-clause-formed
answer_with-requires-clause-formed c =
    let st = c.in-Ok.ensures.0 in
    let f = formula_of c.args.tree.now in
    let none = subst (λ (n : List ℕ). IsNewName (map rule_of c.rules.result.now) n) c.as_str.ensures.text c.in-None.ensures.none in
    let new = new_in c.args.session.now.sheet c.book-book.result.now f st c.in-Ok.rule _ c.book-book.ensures c.rules.ensures c.in-Ok.ensures.1 c.in-Ok.ensures.2 none in
    question_formed c.args.session.now.sheet f st c.in-Ok.rule (subst IsWellFormed c.book-book.ensures c.well_formed-2.ensures) c.in-Ok.ensures.1 new

pub returns-in-None : goal.returns-in-None
returns-in-None c =
    let st = c.in-Ok.ensures.0 in
    let f = formula_of c.args.tree.now in
    let none = subst (λ (n : List ℕ). IsNewName (map rule_of c.rules.result.now) n) c.as_str.ensures.text c.in-None.ensures.none in
    let new = new_in c.args.session.now.sheet c.book-book.result.now f st c.in-Ok.rule _ c.book-book.ensures c.rules.ensures c.in-Ok.ensures.1 c.in-Ok.ensures.2 none in
    subst (λ (s : SessionView). Obeys (state_of c.args.session.now, c.args.notes.now) (asks_ask f) c.answer_with.result (state_of s, c.answer_with.new.notes)) (sym c.answer_with.ensures.same)
    (answered_so c.args.session.now c.args.notes.now c.answer_with.new.notes f st c.answer_with.result new (c.answer_with.ensures.answers st c.in-Ok.ensures.1))
