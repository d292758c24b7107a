use Rattle.std.proofs.Common.{Contains, refl}
use Rattle.std.proofs.lemmas.Bool.{iff_false}
use Rattle.pc_checker.proofs.ClaimLemmas.{one_more, all_of_them}
use Rattle.pc_checker.proofs.SetLemmas.{stopped}
use Rattle.pc_checker.proofs.sets.are_used.Goals as goal

pub loop-said-preserved : goal.loop-said-preserved
loop-said-preserved c = λ entries marked.
    one_more (λ e. Contains entries e.1) c.args.uses.now c.loop-said.said-index c.loop-said-test.true (c.loop-said.invariant entries marked) ((c.is_used.ensures entries marked).0 c.if-not-is_used.false)

pub returns-then-not-is_used : goal.returns-then-not-is_used
returns-then-not-is_used c = λ entries marked. (
  λ z. absurd (cc),
  λ h. absurd
      (stopped (λ e. Contains entries e.1) c.args.uses.now c.loop-said.said-index c.loop-said-test.true (c.loop-said.invariant entries marked) (iff_false (c.is_used.ensures entries marked) c.if-not-is_used.true) h),
)

pub returns : goal.returns
returns c = λ entries marked.
    (λ z. all_of_them (λ e. Contains entries e.1) c.args.uses.now c.loop-said.said-index c.loop-said-test.false (c.loop-said.invariant entries marked), λ h. refl)
