use Rattle.std.proofs.Common.{◌≡◌, ◌∙◌, arith, rules, sym}
use Rattle.pc_sortcheck.proofs.Lists.{name_not_more, name_at, no_rule_name}
use Rattle.pc_sortcheck.proofs.names.is_rule_name.Goals as goal

pub returns-then-eq : goal.returns-then-eq
returns-then-eq c =
    let texts : c.as_str.result.now ≡ c.as_str-in-loop-rule.result.now = search rules in
    (λ z. name_at c.args.rules.now c.loop-rule.rule-index c.rule-item.result c.args.name.now c.rule-item.is c.loop-rule-test.true (sym c.as_str.ensures.text ∙ texts ∙ c.as_str-in-loop-rule.ensures.text), λ h. search rules)

pub loop-rule-preserved : goal.loop-rule-preserved
loop-rule-preserved c =
    name_not_more c.args.rules.now c.loop-rule.rule-index c.rule-item.result c.args.name.now c.loop-rule.invariant c.rule-item.is c.loop-rule-test.true
    (λ same. let texts : c.as_str.result.now ≡ c.as_str-in-loop-rule.result.now = c.as_str.ensures.text ∙ same ∙ sym c.as_str-in-loop-rule.ensures.text in search rules)

pub returns : goal.returns
returns c = (λ z. absurd (cc), λ h. absurd (no_rule_name c.args.rules.now c.loop-rule.rule-index c.args.name.now (omega arith) c.loop-rule.invariant h))
