use Rattle.std.proofs.Common.{◌∙◌, ap, sym}
use Rattle.std.specs.List.{list_any}
use Rattle.std.proofs.lemmas.List.{take_all}
use Rattle.std.proofs.lemmas.List.Folds.{list_any_at}
use Rattle.pc_writer.specs.Counted.{has_counting}
use Rattle.pc_writer.proofs.CountedLemmas.{rule_counts, rules_as_any}
use Rattle.pc_writer.proofs.counted.has_counting.Goals as goal

pub returns-then-has_count : goal.returns-then-has_count
returns-then-has_count c =
    let rules = c.rules-rule-items.result.now in
    let is = ap rule_counts (sym c.rule-item.is) ∙ sym c.has_count.ensures ∙ c.if-has_count.true in
    sym (ap has_counting (sym c.rules-rule-items.ensures) ∙ rules_as_any rules ∙ list_any_at rule_counts rules c.loop-rule.rule-index c.rule-item.result c.loop-rule-test.true is)

pub returns : goal.returns
returns c =
    let rules = c.rules-rule-items.result.now in
    sym (ap has_counting (sym c.rules-rule-items.ensures) ∙ rules_as_any rules ∙ ap (list_any rule_counts) (sym (take_all c.loop-rule.rule-index rules c.loop-rule-test.false)) ∙ c.loop-rule.invariant)
