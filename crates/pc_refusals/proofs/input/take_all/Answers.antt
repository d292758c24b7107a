use Rattle.std.proofs.Common.{◌≡◌, length, take, arith, rules, sym, length-take}
use Rattle.pc_refusals.proofs.Taking.{passes, goes_on, lacks_memory}
use Rattle.pc_refusals.proofs.input.take_all.Goals as goal

pub returns-then-count-limit-clause-gives : goal.returns-then-count-limit-clause-gives
returns-then-count-limit-clause-gives g c =
    let same = c.read.auto.into in
    let size : length c.loop-text.chunk ≡ 4096 = search rules in
    passes c.args.limit _ _ _ c.loop-text.text.items c.loop-text.invariant.taken c.loop-text.invariant.small (take c.in_ok-count.count c.read.new.into) c.in_ok-count.ensures.bytes.0 c.in_ok-count.count
    (sym c.in_ok-count.ensures.bound.1)
    (omega (arith, length-take c.in_ok-count.count c.read.new.into, c.in_ok-count.ensures.bound.1))
    (omega (arith, c.len.ensures))

pub returns-in_err-extend_from_slice-clause-gives : goal.returns-in_err-extend_from_slice-clause-gives
returns-in_err-extend_from_slice-clause-gives g c =
    lacks_memory c.args.limit c.from_residual-in_err-extend_from_slice.result _ _ c.from_residual-in_err-extend_from_slice.ensures.1
    (goes_on c.args.limit _ _ _ c.loop-text.text.items c.loop-text.invariant.taken c.loop-text.invariant.small (take c.in_ok-count.count c.read.new.into) c.in_ok-count.ensures.bytes.0 c.in_ok-count.count (sym c.in_ok-count.ensures.bound.1) (omega (arith, c.len.ensures)))
