use Rattle.pc_cert.proofs.RuleNames.{passed, found, absent}
use Rattle.pc_cert.proofs.lookup.named_rule.Goals as goal

pub loop-place-preserved : goal.loop-place-preserved
loop-place-preserved c = passed c.rules-rule-items.result.now c.args.name.now c.loop-place.place c.rule-item.result c.eq.result c.loop-place-test.true c.rule-item.is c.eq.ensures c.if-eq.false c.loop-place.invariant

pub returns-then-eq : goal.returns-then-eq
returns-then-eq c = found c.rules-rule-items.result.now c.args.name.now c.loop-place.place c.args.book.now c.rules-rule-items.ensures c.rule-item.result c.eq.result c.loop-place-test.true c.rule-item.is c.eq.ensures c.if-eq.true c.well_formed-2.ensures.rules.different

pub returns : goal.returns
returns c = absent c.rules-rule-items.result.now c.args.name.now c.loop-place.place c.args.book.now c.rules-rule-items.ensures c.loop-place-test.false c.loop-place.invariant
