use Rattle.std.proofs.Common.{◌≡◌, ◌+◌, ◌∷◌, ◌++◌, IsSome, drop, take, get_or, arith, ap, ◌∙◌, sym, subst}
use Rattle.pc_sheet.specs.Nodes.{node_at}
use Rattle.pc_cert.proofs.Beyond.{around}
use Rattle.pc_cert.proofs.node.small_steps.Goals as goal

pub returns-then-step-gt4294967295 : goal.returns-then-step-gt4294967295
returns-then-step-gt4294967295 c = λ is.
    let step = get_or c.args.steps.now c.loop-step.step-index 0 in
    let more = drop (c.loop-step.step-index + 1) c.args.steps.now in
    let front : c.as_slice.result.now ≡ take c.loop-step.step-index c.args.steps.now = c.as_slice.ensures.value ∙ c.loop-step.invariant in
    let whole : c.args.steps.now ≡ c.as_slice.result.now ++ step ∷ more = around c.args.steps.now c.loop-step.step-index c.loop-step-test.true ∙ ap (λ f. f ++ step ∷ more) (sym front) in
    c.has_few_children.ensures step more (omega arith) (subst (λ s. IsSome (node_at c.args.book.now c.args.rule s)) whole is)
