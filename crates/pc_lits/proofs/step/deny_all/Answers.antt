use Rattle.std.proofs.Common.{arith, ◌∙◌, refl}
use Rattle.std.proofs.lemmas.Bool.{iff_false, false≢true}
use Rattle.std.proofs.lemmas.List.{length-set, take_all}
use Rattle.std.proofs.lemmas.List.Elements.{All-contains}
use Rattle.pc_lits.specs.Values.{IsInRange, Agrees}
use Rattle.pc_lits.proofs.LitLemmas.{past_lit}
use Rattle.pc_lits.proofs.StepLemmas.{deny_more, found_at, no_tautology}
use Rattle.pc_lits.proofs.step.deny_all.Goals as goal

pub returns-then-is_true-clause-found : goal.returns-then-is_true-clause-found
returns-then-is_true-clause-found c =
    let i = c.loop-lit.lit-index in
    found_at c.loop-lit.values c.args.clause.now i past_lit c.loop-lit-test.true c.loop-lit.invariant.0
    (omega (arith, c.requires.in_range i past_lit c.loop-lit-test.true, c.loop-lit.invariant.1)) (c.is_true.ensures.0 c.if-is_true.true)

pub returns-then-is_true-clause-tautology : goal.returns-then-is_true-clause-tautology
returns-then-is_true-clause-tautology c =
    let i = c.loop-lit.lit-index in (
      λ e. absurd (false≢true e),
      λ none. absurd (none (found_at c.loop-lit.values c.args.clause.now i past_lit c.loop-lit-test.true c.loop-lit.invariant.0
          (omega (arith, c.requires.in_range i past_lit c.loop-lit-test.true, c.loop-lit.invariant.1)) (c.is_true.ensures.0 c.if-is_true.true))),
    )

pub loop-lit-preserved : goal.loop-lit-preserved
loop-lit-preserved c =
    let i = c.loop-lit.lit-index in
    rw c.deny.ensures (
      deny_more c.loop-lit.values c.args.clause.now i past_lit c.loop-lit-test.true c.loop-lit.invariant.0
          (omega (arith, c.requires.in_range i past_lit c.loop-lit-test.true, c.loop-lit.invariant.1)) (iff_false c.is_true.ensures c.if-is_true.false),
      length-set c.loop-lit.values _ _ ∙ c.loop-lit.invariant.1,
    )

pub returns-clause-denied : goal.returns-clause-denied
returns-clause-denied c = rw (take_all c.loop-lit.lit-index c.args.clause.now c.loop-lit-test.false) at c.loop-lit.invariant.0

pub returns-clause-tautology : goal.returns-clause-tautology
returns-clause-tautology c =
    let agrees : Agrees c.loop-lit.values c.args.clause.now = rw (take_all c.loop-lit.lit-index c.args.clause.now c.loop-lit-test.false) at c.loop-lit.invariant.0 in (
      λ _ h. no_tautology c.loop-lit.values c.args.clause.now agrees
          (λ m has. omega (arith, All-contains (IsInRange c.args.values.now) c.args.clause.now m c.requires.in_range has, c.loop-lit.invariant.1)) h,
      λ _. refl,
    )
