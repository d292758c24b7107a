use Rattle.std.proofs.Common.{◌∙◌, ap, arith, length, subst, take_all}
use Rattle.std.proofs.lemmas.List.{length-replicate}
use Rattle.pc_ask.specs.inside.Parts.{AreMarked}
use Rattle.pc_ask.proofs.Over.{marked_none, marks_step}
use Rattle.pc_ask.proofs.part.marks_of.Goals as goal

pub loop-i-init : goal.loop-i-init
loop-i-init c = record { room = ap length c.in_ok-marks.ensures ∙ length-replicate c.args.count _; marked = marked_none c.args.count c.in_ok-marks.marks c.in_ok-marks.ensures }

pub loop-i-preserved : goal.loop-i-preserved
loop-i-preserved c =
    let s = marks_step c.args.count c.args.own.now c.loop-i.i c.loop-i.marks c.assign.new.self c.positive.result (record { 0 = 0 }) c.requires c.loop-i-test.true c.positive.ensures c.assign.ensures c.loop-i.invariant.room c.loop-i.invariant.marked in
    record { room = s.0; marked = s.1 }

pub returns-clause-marked : goal.returns-clause-marked
returns-clause-marked c = subst (λ vs. AreMarked vs c.loop-i.marks) (take_all c.loop-i.i c.args.own.now (omega (arith, c.loop-i-test.false))) c.loop-i.invariant.marked
