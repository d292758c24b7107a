use Rattle.std.proofs.Common.{ℕ, List, [], map, ap, ◌∙◌, arith}
use Rattle.std.specs.List.{range_with_len}
use Rattle.pc_accept.specs.Axioms.{child_of}
use Rattle.pc_cert.specs.Links.{symbol_in}
use Rattle.pc_cert.proofs.KeyLemmas.{children_links, children_numbered, first_numbered}
use Rattle.pc_cert.proofs.numbering.Numbering.number_children.Goals as goal

pub invariant_of-self-in_err-numbers : goal.invariant_of-self-in_err-numbers
invariant_of-self-in_err-numbers c =
    let h = c.in_err-numbers.ensures.err in
    children_links c.self.inside.fronts c.place.new.self c.deref.result.now c.in_ok-place.place c.in_ok-place.ensures.ok c.args.parent.now.rule c.args.parent.now.steps.items (c.deref.ensures.value ∙ c.in_ok-front.ensures)
    c.recall_different.ensures c.self.inside.links c.number_below.new.links (range_with_len 0 h.0) h.1 c.self.invariant h.3

pub returns-in_err-numbers-clause-err : goal.returns-in_err-numbers-clause-err
returns-in_err-numbers-clause-err c =
    let h = c.in_err-numbers.ensures.err in
    first_numbered _ (child_of c.args.parent.now.rule c.args.parent.now.steps.items) c.args.self.now (map (symbol_in c.place.new.self) c.number_below.new.links) c.args.count h.0 h.1 h.2
    (children_numbered c.self.inside.fronts c.place.new.self c.deref.result.now c.in_ok-place.place c.in_ok-place.ensures.ok c.args.parent.now.rule c.args.parent.now.steps.items (c.deref.ensures.value ∙ c.in_ok-front.ensures)
    c.recall_different.ensures c.self.inside.links c.number_below.new.links (range_with_len 0 h.0) h.1 c.self.invariant h.3 c.args.self.now c.self.view_is)

pub returns-in_err-place-clause-err : goal.returns-in_err-place-clause-err
returns-in_err-place-clause-err c =
    first_numbered _ (child_of c.args.parent.now.rule c.args.parent.now.steps.items) c.args.self.now (map (symbol_in c.place.new.self) c.self.inside.links) c.args.count 0 [] (omega arith)
    (ap (λ (fs : List (List ℕ)). map (symbol_in fs) c.self.inside.links) c.in_err-place.ensures.err ∙ c.self.view_is)

pub invariant_of-self-2 : goal.invariant_of-self-2
invariant_of-self-2 c =
    children_links c.self.inside.fronts c.place.new.self c.deref.result.now c.in_ok-place.place c.in_ok-place.ensures.ok c.args.parent.now.rule c.args.parent.now.steps.items (c.deref.ensures.value ∙ c.in_ok-front.ensures)
    c.recall_different.ensures c.self.inside.links c.number_below.new.links (range_with_len 0 c.args.count) c.in_ok-numbers.numbers.items c.self.invariant c.in_ok-numbers.ensures.ok

pub returns-clause-ok : goal.returns-clause-ok
returns-clause-ok c =
    children_numbered c.self.inside.fronts c.place.new.self c.deref.result.now c.in_ok-place.place c.in_ok-place.ensures.ok c.args.parent.now.rule c.args.parent.now.steps.items (c.deref.ensures.value ∙ c.in_ok-front.ensures)
    c.recall_different.ensures c.self.inside.links c.number_below.new.links (range_with_len 0 c.args.count) c.in_ok-numbers.numbers.items c.self.invariant c.in_ok-numbers.ensures.ok c.args.self.now c.self.view_is
