use Rattle.pc_cert.proofs.Finished.{unended, claimed, all_read}
use Rattle.pc_cert.proofs.read.finish.Goals as goal

pub returns-then-not-order : goal.returns-then-not-order
returns-then-not-order c = λ sheet text rest taken none. unended sheet text rest c.args.order.now c.args.draft c.args.number taken none c.if-not-order.true

pub returns-in_default : goal.returns-in_default
returns-in_default c = λ sheet text rest taken none. absurd (claimed sheet text rest c.args.order.now c.args.draft c.args.number taken none c.if-not-order.false c.in_default.is)

pub returns : goal.returns
returns c = λ sheet text rest taken none. all_read sheet text rest c.args.order.now c.args.draft c.args.number taken none c.if-not-order.false c.in-Some.claim c.in-Some.is c.into_symbols-symbols.result c.into_symbols-symbols.ensures.same c.into_symbols-symbols.ensures.distinct
