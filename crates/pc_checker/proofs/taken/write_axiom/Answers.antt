use Rattle.std.proofs.Common.{length, sym, subst, ap, ◌∙◌, arith}
use Rattle.std.proofs.lemmas.List.{length-map}
use Rattle.pc_sheet.specs.Nodes.{kind_at}
use Rattle.pc_sheet.specs.Views.{rule_of}
use Rattle.pc_axiom_names.specs.Views.{axiom_of}
use Rattle.pc_checker.specs.inside.Written.{IsAxiomWritten}
use Rattle.pc_checker.proofs.AxiomLemmas.{rule_missing, rule_written, node_written, if_ok_then}
use Rattle.pc_checker.proofs.taken.write_axiom.Goals as goal

pub returns-then-rule-rules-clause-written : goal.returns-then-rule-rules-clause-written
returns-then-rule-rules-clause-written c =
    subst (λ a. IsAxiomWritten c.args.book.now (axiom_of a) c.args.draft.now c.args.draft.now _) (sym c.in-Rule.is)
    (rule_missing c.args.book.now c.in-Rule.rule c.args.draft.now (omega (arith, length-map c.rules.result.now rule_of, ap length c.rules.ensures)))

pub returns-in_ok-push_node-in-Rule-clause-written : goal.returns-in_ok-push_node-in-Rule-clause-written
returns-in_ok-push_node-in-Rule-clause-written c =
    subst (λ a. IsAxiomWritten c.args.book.now (axiom_of a) c.args.draft.now c.push_node.new.self _) (sym c.in-Rule.is)
    (rule_written c.args.book.now c.in-Rule.rule c.args.draft.now c.push_node.new.self (omega (arith, length-map c.rules.result.now rule_of, ap length c.rules.ensures)) c.requires.blank c.in_ok-push_node-in-Rule.ensures)

pub returns-in-Some-clause-written : goal.returns-in-Some-clause-written
returns-in-Some-clause-written c =
    let at = ap (kind_at c.args.book.now c.in-Node.path.rule) (sym c.deref.ensures.value) ∙ sym c.node_at.ensures ∙ c.in-Some.is in
    if_ok_then c.write_node.result _ _
    (λ good w. subst (λ a. IsAxiomWritten c.args.book.now (axiom_of a) c.args.draft.now c.write_node.new.draft good) (sym c.in-Node.is)
    (node_written c.args.book.now c.in-Node.path.rule c.in-Node.path.steps.items c.in-Some.kind c.in-Node.number c.args.draft.now c.write_node.new.draft good at w))
    c.write_node.ensures
