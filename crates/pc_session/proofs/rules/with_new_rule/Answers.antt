use Rattle.std.proofs.Common.{map}
use Rattle.pc_sheet.specs.Views.{rule_of}
use Rattle.pc_session.proofs.RuleEdits.{formed_with_rule, not_new, same_at, same_new}
use Rattle.pc_session.proofs.rules.with_new_rule.Goals as goal

pub with_rule-requires : goal.with_rule-requires
with_rule-requires c =
    formed_with_rule c.args.book.now (rule_of c.args.rule) c.well_formed-2.ensures c.requires.rule c.requires.few
    (same_new (map rule_of c.rules.result.now) c.args.book.now.rules c.as_str.result.now c.args.rule.name c.rules.ensures c.as_str.ensures.text c.in-None.ensures.none)

pub returns-in-Some-clause-refused : goal.returns-in-Some-clause-refused
returns-in-Some-clause-refused c =
    λ budget new.
    not_new c.args.book.now.rules c.args.rule.name c.in-Some.field-0 (same_at (map rule_of c.rules.result.now) c.args.book.now.rules c.as_str.result.now c.args.rule.name c.in-Some.field-0 c.rules.ensures c.as_str.ensures.text c.in-Some.ensures.found) new
