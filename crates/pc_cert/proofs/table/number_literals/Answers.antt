use Rattle.pc_cert.proofs.Numbered.{literal_more, literal_none, of_some, of_none}
use Rattle.pc_cert.proofs.table.number_literals.Goals as goal

pub returns-in_default-clause-told : goal.returns-in_default-clause-told
returns-in_default-clause-told c =
    literal_none c.args.book.now c.args.literals.now c.loop-literal.literal-index c.literal-item.result c.loop-literal-test.true c.literal-item.is (of_none _ _ c.in_ok-lit.field-0 c.in_default.is c.in_ok-lit.ensures.told)

pub loop-literal-preserved : goal.loop-literal-preserved
loop-literal-preserved c = (
  λ kept. c.in_ok-lit.ensures.kept (c.loop-literal.invariant.0 kept),
  literal_more c.args.book.now c.args.literals.now c.loop-literal.literal-index c.literal-item.result c.args.table.now.names c.loop-literal.table.names c.number_literal.new.table.names
      c.loop-literal.numbered.items c.in-Some.lit c.push.new.self.items c.loop-literal-test.true c.literal-item.is c.in_ok-push.ensures.items c.loop-literal.invariant.1
      (of_some _ _ c.in_ok-lit.field-0 c.in-Some.lit c.in-Some.is c.in_ok-lit.ensures.told),
)
