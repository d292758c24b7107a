use Rattle.pc_kept.proofs.MarkedLemmas.{marked_step}
use Rattle.std.proofs.Common.{arith, false}
use Rattle.std.proofs.lemmas.Option.{slice_get-get_or}
use Rattle.pc_kept.proofs.checking.numbers_marked.Goals as goal

pub loop-i-preserved : goal.loop-i-preserved
loop-i-preserved c = marked_step c.args.used.now c.args.marks.now c.loop-i.i _ _ c.loop-i.kept.items c.push_if.new.kept.items _
    (slice_get-get_or c.args.used.now c.loop-i.i 0 c.loop-i-test.true) (slice_get-get_or c.args.marks.now c.loop-i.i false (omega (arith, c.loop-i-test.true, c.requires))) (c.in_ok-push_if.ensures) c.loop-i.invariant
