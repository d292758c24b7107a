use Rattle.std.proofs.Common.{◌*◌, ap, ◌∙◌, subst}
use Rattle.pc_repairs.specs.inside.Joining.{IsCapped, many_sets}
use Rattle.pc_repairs.proofs.Counting.{counted_more}
use Rattle.pc_repairs.proofs.joining.count_choices.Goals as goal

pub loop-part-preserved : goal.loop-part-preserved
loop-part-preserved c =
    let r = c.part-item.result in
    counted_more c.args.parts.now c.loop-part.part-index r c.loop-part.count c.times-count.result c.loop-part-test.true c.loop-part.invariant
    (subst (λ n. IsCapped c.times-count.result (c.loop-part.count * n)) (c.len.ensures ∙ ap many_sets c.part-item.is) c.times-count.ensures)
