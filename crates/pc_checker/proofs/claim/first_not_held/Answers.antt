use Rattle.std.proofs.Common.{◌<◌, length, get_or, refl}
use Rattle.pc_checker.specs.Verdicts.{IsHeld}
use Rattle.pc_checker.proofs.ClaimLemmas.{no_said, first_value, is_held, is_not_held, stops_at, one_more, all_of_them}
use Rattle.pc_checker.proofs.claim.first_not_held.Goals as goal

pub returns-then-values-from : goal.returns-then-values-from
returns-then-values-from c =
    let e = (get_or c.args.uses.now c.loop-said.said-index no_said).entry in (
      _,
      stops_at (IsHeld c.args.values.now) c.args.uses.now c.loop-said.said-index c.loop-said-test.true c.loop-said.invariant (is_not_held c.args.values.now e.cell.0 c.from.result e.value first_value c.from.ensures c.if-values-from.true),
      refl,
    )

pub loop-said-preserved : goal.loop-said-preserved
loop-said-preserved c =
    let e = (get_or c.args.uses.now c.loop-said.said-index no_said).entry in
    let within : e.cell.0 < length c.args.values.now = c.requires c.loop-said.said-index no_said c.loop-said-test.true in
    one_more (IsHeld c.args.values.now) c.args.uses.now c.loop-said.said-index c.loop-said-test.true c.loop-said.invariant (is_held c.args.values.now e.cell.0 c.from.result e.value first_value c.from.ensures within c.if-values-from.false)

pub returns : goal.returns
returns c = all_of_them (IsHeld c.args.values.now) c.args.uses.now c.loop-said.said-index c.loop-said-test.false c.loop-said.invariant
