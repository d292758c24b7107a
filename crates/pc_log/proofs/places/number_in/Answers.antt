use Rattle.std.proofs.Common.{ℕ, ◌/◌, ◌+◌, inl, inr, arith}
use Rattle.pc_log.proofs.ListedLemmas.{halved, stands_within}
use Rattle.pc_log.proofs.places.number_in.Goals as goal

pub loop-size-init : goal.loop-size-init
loop-size-init c =
    let there = stands_within c.args.list.now c.args.place c.requires.rise c.requires.among in
    record { from = omega arith; to = omega (arith, there.0); within = omega arith }

pub loop-size-preserved : goal.loop-size-preserved
loop-size-preserved c =
    let half : ℕ = c.loop-size.size / 2 in
    let told = halved c.args.list.now c.args.place c.loop-size.base (c.loop-size.base + half) c.last_from-base.result c.requires.rise c.requires.among c.last_from-base.ensures in
    let there = told c.loop-size.invariant.from (omega (arith, c.loop-size.invariant.within, c.loop-size-test.true)) in
    elim there.1 [
      | inl is ↦ record { from = there.0; to = omega (arith, is, c.loop-size.invariant.to); within = omega (arith, is, c.loop-size.invariant.within) }
      | inr (is, before) ↦ record { from = there.0; to = omega (arith, is, before); within = omega (arith, is, c.loop-size.invariant.within) }
    ]
