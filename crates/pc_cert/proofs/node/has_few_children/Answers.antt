use Rattle.pc_cert.proofs.Beyond.{beyond, no_kind, few_kind}
use Rattle.pc_cert.proofs.node.has_few_children.Goals as goal

pub returns-in_default : goal.returns-in_default
returns-in_default c = λ k more large. beyond c.args.book.now c.args.rule c.args.steps.now c.node_at.result c.node_at.ensures k more (no_kind c.node_at.result c.in_default.is k)

pub returns : goal.returns
returns c = λ k more large. beyond c.args.book.now c.args.rule c.args.steps.now c.node_at.result c.node_at.ensures k more (few_kind c.node_at.result c.in-Some.kind c.in-Some.is c.children.result c.children.ensures.exact c.children.ensures.few k large)
