use Rattle.std.proofs.Common.{arith, length, ap}
use Rattle.std.proofs.lemmas.List.{length-map}
use Rattle.std.proofs.lemmas.Result.{err_from_is_err_and}
use Rattle.pc_syntax.specs.Tree.{formula_of}
use Rattle.pc_formula.specs.Nesting as written
use Rattle.pc_sheet.specs.Views.{rule_of, statement_of}
use Rattle.pc_spreadsheet.proofs.Answering.{denial_found, denied_told, fault_denied, no_room_denied}
use Rattle.pc_spreadsheet.proofs.asking.denying.Goals as goal

pub returns-in_err-formula : goal.returns-in_err-formula
returns-in_err-formula c =
    let e = fault_denied c.args.book.now (formula_of c.args.tree.now) c.in_err-formula.field-0.0 c.in_err-formula.ensures.told in
    let p = err_from_is_err_and c.from_residual.result c.from_residual.ensures.1 in
    rw (p.1, p.2) e

pub returns-then-rules-ge-MOST_RULES : goal.returns-then-rules-ge-MOST_RULES
returns-then-rules-ge-MOST_RULES c =
    no_room_denied c.args.book.now (formula_of c.args.tree.now) (statement_of c.in_ok-formula.formula) c.in_ok-formula.ensures.told (omega (arith, c.if-rules-ge-MOST_RULES.true, ap length c.rules.ensures, length-map c.rules.result.now rule_of))

pub returns : goal.returns
returns c =
    let f = formula_of c.args.tree.now in
    let s = statement_of c.in_ok-formula.formula in
    let is = denial_found c.args.book.now f s (written.nesting_of f) c.in_ok-formula.ensures.told c.in_ok-formula.ensures.nested c.requires.nested
    (omega (arith, c.if-rules-ge-MOST_RULES.false, ap length c.rules.ensures, length-map c.rules.result.now rule_of)) in
    denied_told c.args.book.now f s c.deny.result is c.deny.ensures.rule c.deny.ensures.want
