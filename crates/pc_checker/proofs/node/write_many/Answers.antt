use Rattle.std.proofs.Common.{arith}
use Rattle.pc_accept.specs.Literals.{node}
use Rattle.pc_accept.specs.Axioms.{child_of}
use Rattle.pc_checker.proofs.AxiomLemmas.{many_short, many_long, many_past}
use Rattle.pc_checker.proofs.node.write_many.Goals as goal

pub returns-then-place-count : goal.returns-then-place-count
returns-then-place-count c =
    many_short (node c.args.path.now.rule c.args.path.now.steps.items) (child_of c.args.path.now.rule c.args.path.now.steps.items) c.args.sign c.args.count c.args.number c.args.draft.now c.write_parts.new.draft c.requires
    (λ z. omega arith) (omega arith) c.in_ok-write_parts.ensures

pub returns-then-place-count-2 : goal.returns-then-place-count-2
returns-then-place-count-2 c =
    many_past (node c.args.path.now.rule c.args.path.now.steps.items) (child_of c.args.path.now.rule c.args.path.now.steps.items) c.args.sign c.args.count c.args.number c.args.draft.now (omega arith)

pub returns : goal.returns
returns c =
    many_long (node c.args.path.now.rule c.args.path.now.steps.items) (child_of c.args.path.now.rule c.args.path.now.steps.items) c.args.sign c.args.count c.args.number c.args.draft.now c.push_node.new.self c.push_children.new.self
    c.requires (λ z. omega arith) (omega arith) (rw c.deref.ensures.value at c.in_ok-push_node.ensures) c.in_ok-push_children.ensures
