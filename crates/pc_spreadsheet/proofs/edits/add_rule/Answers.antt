use Rattle.std.proofs.Common.{sym}
use Rattle.pc_syntax.specs.Tree.{asks_rule, formula_of}
use Rattle.pc_sheet.specs.Views.{rule_of}
use Rattle.pc_formula.specs.Nesting as written
use Rattle.pc_spreadsheet.specs.Commands.{state_of}
use Rattle.pc_spreadsheet.proofs.Telling.{refused_in}
use Rattle.pc_spreadsheet.proofs.Editing.{added_so, adding_told, adding_lawful}
use Rattle.pc_spreadsheet.proofs.Rules.{found_rule}
use Rattle.pc_spreadsheet.proofs.edits.add_rule.Goals as goal

pub returns-in-Err : goal.returns-in-Err
returns-in-Err c =
    refused_in (state_of c.args.session.now, c.args.notes.now) c.book.result.now (asks_rule c.args.tree.now.name (formula_of c.args.tree.now.formula)) c.in-Err.fault c.refuse.result (sym c.book.ensures) tt c.in-Err.ensures.told c.refuse.ensures

pub add_rule-requires-clause-rule : goal.add_rule-requires-clause-rule
add_rule-requires-clause-rule c =
    let f = formula_of c.args.tree.now.formula in
    let is = found_rule c.args.session.now.sheet c.book.result.now c.args.tree.now.name f (rule_of c.in-Ok.rule) (written.nesting_of (formula_of c.args.tree.now.formula)) c.book.ensures c.in-Ok.ensures.named c.as_str.ensures.name c.in-Ok.ensures.nested c.requires.nested c.in-Ok.ensures.told c.in-Ok.ensures.fault in
    is.formed

pub add_rule-requires-clause-few : goal.add_rule-requires-clause-few
add_rule-requires-clause-few c =
    let is = found_rule c.args.session.now.sheet c.book.result.now c.args.tree.now.name (formula_of c.args.tree.now.formula) (rule_of c.in-Ok.rule) (written.nesting_of (formula_of c.args.tree.now.formula)) c.book.ensures c.in-Ok.ensures.named c.as_str.ensures.name c.in-Ok.ensures.nested c.requires.nested c.in-Ok.ensures.told c.in-Ok.ensures.fault in
    is.room

pub returns-in-Ok-add_rule : goal.returns-in-Ok-add_rule
returns-in-Ok-add_rule c =
    let f = formula_of c.args.tree.now.formula in
    let is = found_rule c.args.session.now.sheet c.book.result.now c.args.tree.now.name f (rule_of c.in-Ok.rule) (written.nesting_of (formula_of c.args.tree.now.formula)) c.book.ensures c.in-Ok.ensures.named c.as_str.ensures.name c.in-Ok.ensures.nested c.requires.nested c.in-Ok.ensures.told c.in-Ok.ensures.fault in
    added_so c.args.session.now c.add_rule.new.self c.args.notes.now c.args.tree.now.name f (rule_of c.in-Ok.rule) c.add_rule.result is c.add_rule.ensures.duplicate c.in-Ok-add_rule.is c.in-Ok-add_rule.ensures.light c.in-Ok-add_rule.ensures.consistent c.in-Ok-add_rule.ensures.sheet c.add_rule.ensures.budget

pub tell_refused-requires : goal.tell_refused-requires
tell_refused-requires c = adding_lawful c.args.session.now c.add_rule.new.self c.args.notes.now (rule_of c.in-Ok.rule) c.in-Err-add_rule.refused c.in-Err-add_rule.ensures.refused

pub returns-in-Err-add_rule : goal.returns-in-Err-add_rule
returns-in-Err-add_rule c =
    let f = formula_of c.args.tree.now.formula in
    let is = found_rule c.args.session.now.sheet c.book.result.now c.args.tree.now.name f (rule_of c.in-Ok.rule) (written.nesting_of (formula_of c.args.tree.now.formula)) c.book.ensures c.in-Ok.ensures.named c.as_str.ensures.name c.in-Ok.ensures.nested c.requires.nested c.in-Ok.ensures.told c.in-Ok.ensures.fault in
    adding_told c.args.session.now c.add_rule.new.self c.args.notes.now c.args.tree.now.name f (rule_of c.in-Ok.rule) c.in-Err-add_rule.refused c.tell_refused.new.notes c.tell_refused.result c.tell_refused.ensures is c.in-Err-add_rule.ensures.refused c.in-Err-add_rule.ensures.unchanged.0
