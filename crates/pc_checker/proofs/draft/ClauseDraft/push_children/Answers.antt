use Rattle.std.proofs.Common.{◌++◌, map, refl, ap, ◌∙◌}
use Rattle.std.specs.List.{range_with_len}
use Rattle.pc_accept.specs.Axioms.{child_of}
use Rattle.pc_checker.specs.Drafts.{lit_of}
use Rattle.pc_checker.proofs.DraftLemmas.{before_within, children_within, children_written}
use Rattle.pc_checker.proofs.draft.ClauseDraft.push_children.Goals as goal

pub invariant_of-self : goal.invariant_of-self
invariant_of-self c =
    before_within c.args.sign (child_of c.args.parent.now.rule c.args.parent.now.steps.items) (range_with_len 0 c.in_err-numbers.ensures.err.0) c.self.inside.names c.number_children.new.self c.in_err-numbers.ensures.err.1 c.in_err-numbers.ensures.err.3
    c.self.inside.lits.items c.self.invariant c.self.inside.lits.items refl

pub invariant_of-self-in_err-lits : goal.invariant_of-self-in_err-lits
invariant_of-self-in_err-lits c =
    before_within c.args.sign (child_of c.args.parent.now.rule c.args.parent.now.steps.items) (range_with_len 0 c.args.count) c.self.inside.names c.number_children.new.self c.in_ok-numbers.numbers.items c.in_ok-numbers.ensures.ok
    c.self.inside.lits.items c.self.invariant c.self.inside.lits.items refl

pub invariant_of-self-in_err-extend_from_slice : goal.invariant_of-self-in_err-extend_from_slice
invariant_of-self-in_err-extend_from_slice c =
    before_within c.args.sign (child_of c.args.parent.now.rule c.args.parent.now.steps.items) (range_with_len 0 c.args.count) c.self.inside.names c.number_children.new.self c.in_ok-numbers.numbers.items c.in_ok-numbers.ensures.ok
    c.self.inside.lits.items c.self.invariant c.extend_from_slice.new.self.items c.in_err-extend_from_slice.ensures.items

pub invariant_of-self-2 : goal.invariant_of-self-2
invariant_of-self-2 c =
    children_within c.args.sign (child_of c.args.parent.now.rule c.args.parent.now.steps.items) (range_with_len 0 c.args.count) c.self.inside.names c.number_children.new.self c.in_ok-numbers.numbers.items c.in_ok-numbers.ensures.ok
    c.self.inside.lits.items c.self.invariant c.extend_from_slice.new.self.items
    (c.in_ok-extend_from_slice.ensures.items ∙ ap (λ ls. c.self.inside.lits.items ++ ls) (c.deref-2.ensures.value ∙ c.in_ok-lits.ensures ∙ ap (map (lit_of c.args.sign)) c.deref.ensures.value))

pub returns : goal.returns
returns c =
    children_written c.args.sign (child_of c.args.parent.now.rule c.args.parent.now.steps.items) (range_with_len 0 c.args.count) c.self.inside.names c.number_children.new.self c.in_ok-numbers.numbers.items c.in_ok-numbers.ensures.ok
    c.self.inside.lits.items c.self.invariant c.extend_from_slice.new.self.items
    c.args.self.now c.self.view_is
    (c.in_ok-extend_from_slice.ensures.items ∙ ap (λ ls. c.self.inside.lits.items ++ ls) (c.deref-2.ensures.value ∙ c.in_ok-lits.ensures ∙ ap (map (lit_of c.args.sign)) c.deref.ensures.value))
