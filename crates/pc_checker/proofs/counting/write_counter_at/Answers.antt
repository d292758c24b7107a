use Rattle.std.proofs.Common.{◌≡◌, [], ◌∷◌, ◌++◌, ap, sym, ◌∙◌}
use Rattle.pc_sheet.specs.Nodes.{kind_at}
use Rattle.pc_checker.proofs.AxiomLemmas.{if_ok_then}
use Rattle.pc_checker.proofs.CounterLemmas.{none_above, other_above, count_above, few_counted}
use Rattle.pc_checker.proofs.counting.write_counter_at.Goals as goal

pub returns-in_default-node_at : goal.returns-in_default-node_at
returns-in_default-node_at c = λ i j at.
    none_above c.args.book.now c.args.path.now.rule c.args.path.now.steps.items c.in-Some.steps.now c.in-Some.last.now (sym c.deref.ensures.value ∙ c.in-Some.ensures.cases.0) c.args.number i j c.args.draft.now
    (sym c.node_at.ensures ∙ c.in_default-node_at.is)

pub returns-in_default-counted_by : goal.returns-in_default-counted_by
returns-in_default-counted_by c = λ i j at.
    other_above c.args.book.now c.args.path.now.rule c.args.path.now.steps.items c.in-Some.steps.now c.in-Some.last.now (sym c.deref.ensures.value ∙ c.in-Some.ensures.cases.0) c.args.number i j c.args.draft.now
    c.in-Some-node_at.kind (sym c.node_at.ensures ∙ c.in-Some-node_at.is) (c.in_default-counted_by.ensures c.args.path.now.rule c.in-Some.steps.now c.in-Some.last.now)

pub write_child-requires-clause-few : goal.write_child-requires-clause-few
write_child-requires-clause-few c =
    few_counted c.in-Some-node_at.kind c.in-Some-counted_by.ensures.0 c.in-Some-counted_by.counted.values c.in-Some-counted_by.counted.threshold c.in-Some-counted_by.ensures.1
    (c.few_children.ensures c.args.path.now.rule c.in-Some.steps.now c.in-Some-node_at.kind (sym c.node_at.ensures ∙ c.in-Some-node_at.is))

pub returns : goal.returns
returns c = λ i j at.
    let above = c.in_ok-from_slice.field-0.items in
    let same : above ≡ c.in-Some.steps.now = c.in_ok-from_slice.ensures.items in
    if_ok_then c.write_child.result _ _
    (λ good w. count_above c.args.book.now c.args.path.now.rule c.args.path.now.steps.items above c.in-Some.last.now
    (sym c.deref.ensures.value ∙ c.in-Some.ensures.cases.0 ∙ ap (λ s. s ++ c.in-Some.last.now ∷ []) (sym same)) c.args.number i j c.args.draft.now
    c.in-Some-node_at.kind c.in-Some-counted_by.ensures.0 c.in-Some-counted_by.counted.values c.in-Some-counted_by.counted.threshold
    (ap (kind_at c.args.book.now c.args.path.now.rule) same ∙ sym c.node_at.ensures ∙ c.in-Some-node_at.is) c.in-Some-counted_by.ensures.1 c.write_child.new.draft good w)
    c.write_child.ensures
