use Rattle.std.proofs.Common.{◌≤◌, Contains, map, arith, rules, sym, subst}
use Rattle.pc_syntax.specs.Tree.{formula_of}
use Rattle.pc_sheet.specs.Nesting.{nesting_of}
use Rattle.pc_sheet.specs.Views.{rule_of, statement_of}
use Rattle.pc_sheet.specs.WellFormed.{rule_name}
use Rattle.pc_sortcheck.proofs.DeclaredRules.{name_taken, rule_formed, rule_declared}
use Rattle.pc_sortcheck.proofs.rule.declare_rule.Goals as goal

pub returns-then-is_rule_name : goal.returns-then-is_rule_name
returns-then-is_rule_name c =
    name_taken c.args.book.now c.args.tree.now.name (formula_of c.args.tree.now.formula) (rule_of c.in_ok-rule.rule) c.in_ok-rule.ensures.told.0 c.in_ok-rule.ensures.told.1 c.in_ok-rule.ensures.fault
    (subst (λ rs. Contains (map rule_name rs) c.args.tree.now.name) c.rules.ensures (c.is_rule_name.ensures.0 (search rules)))

pub push_rule-requires : goal.push_rule-requires
push_rule-requires c =
    let nesting : nesting_of (statement_of c.in_ok-rule.rule.formula) ≤ 128 = omega (arith, c.in_ok-rule.ensures.nested, c.requires.nested) in
    rule_formed c.args.book.now c.args.tree.now.name (formula_of c.args.tree.now.formula) (rule_of c.in_ok-rule.rule) c.in_ok-rule.ensures.told.0 c.in_ok-rule.ensures.told.1 c.in_ok-rule.ensures.fault
    c.in_ok-rule.ensures.named c.keeps_form.ensures c.is_name.ensures (λ k. (let y = c.is_rule_name.ensures.1 (subst (λ rs. Contains (map rule_name rs) c.args.tree.now.name) (sym c.rules.ensures) k) in search rules)) nesting

pub returns : goal.returns
returns c =
    let nesting : nesting_of (statement_of c.in_ok-rule.rule.formula) ≤ 128 = omega (arith, c.in_ok-rule.ensures.nested, c.requires.nested) in
    let formed = rule_formed c.args.book.now c.args.tree.now.name (formula_of c.args.tree.now.formula) (rule_of c.in_ok-rule.rule) c.in_ok-rule.ensures.told.0 c.in_ok-rule.ensures.told.1 c.in_ok-rule.ensures.fault
    c.in_ok-rule.ensures.named c.keeps_form.ensures c.is_name.ensures (λ k. (let y = c.is_rule_name.ensures.1 (subst (λ rs. Contains (map rule_name rs) c.args.tree.now.name) (sym c.rules.ensures) k) in search rules)) nesting in
    rule_declared c.args.book.now c.args.tree.now.name (formula_of c.args.tree.now.formula) (rule_of c.in_ok-rule.rule) c.in_ok-rule.ensures.told.0 c.in_ok-rule.ensures.told.1 c.in_ok-rule.ensures.fault
    c.push_rule.new.self c.in_ok-rule.ensures.named c.in_ok-push_rule.ensures.ok formed
