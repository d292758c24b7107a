use Rattle.std.proofs.Common.{◌≡◌, arith, length, subst}
use Rattle.pc_ask.specs.inside.Parts.{AreMarkedBelow}
use Rattle.pc_ask.proofs.Over.{below_step}
use Rattle.pc_ask.proofs.part.marked_clauses.Goals as goal

pub loop-number-preserved : goal.loop-number-preserved
loop-number-preserved c =
    below_step c.args.store.now c.args.marks.now c.loop-number.number c.get.result.now c.is_marked-is.result c.loop-number.used.items c.push_if.new.numbers.items c.get.ensures c.is_marked-is.ensures
    c.in_ok-push_if.ensures c.loop-number.invariant

pub returns : goal.returns
returns c =
    let full : c.loop-number.number ≡ length c.args.store.now = omega (arith, c.loop-number-test.false, c.loop-number.auto.number-end, c.len-number-end.ensures) in
    subst (λ n. AreMarkedBelow c.args.store.now c.args.marks.now n c.loop-number.used.items) full c.loop-number.invariant
