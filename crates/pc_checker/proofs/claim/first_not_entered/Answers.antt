use Rattle.std.proofs.Common.{Contains, refl}
use Rattle.std.proofs.lemmas.Bool.{iff_false}
use Rattle.pc_checker.proofs.ClaimLemmas.{stops_at, one_more, all_of_them}
use Rattle.pc_checker.proofs.claim.first_not_entered.Goals as goal

pub returns-then-not-is_entered : goal.returns-then-not-is_entered
returns-then-not-is_entered c = λ entries laid. (
  _,
  stops_at (λ e. Contains entries e.1) c.args.uses.now c.loop-said.said-index c.loop-said-test.true (c.loop-said.invariant entries laid) (iff_false (c.is_entered.ensures entries laid) c.if-not-is_entered.true),
  refl,
)

pub loop-said-preserved : goal.loop-said-preserved
loop-said-preserved c = λ entries laid.
    one_more (λ e. Contains entries e.1) c.args.uses.now c.loop-said.said-index c.loop-said-test.true (c.loop-said.invariant entries laid) ((c.is_entered.ensures entries laid).0 c.if-not-is_entered.false)

pub returns : goal.returns
returns c = λ entries laid. all_of_them (λ e. Contains entries e.1) c.args.uses.now c.loop-said.said-index c.loop-said-test.false (c.loop-said.invariant entries laid)
