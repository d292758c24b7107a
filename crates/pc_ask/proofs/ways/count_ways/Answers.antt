use Rattle.std.proofs.Common.{◌∙◌, ap, subst}
use Rattle.std.specs.Prelude.{◌≡◌, ◌*◌, min}
use Rattle.pc_repairs.specs.inside.Joining.{many_sets}
use Rattle.pc_ask.specs.inside.Ways.{most_tried}
use Rattle.pc_ask.proofs.Numbered.{cut_all, cut_more}
use Rattle.pc_ask.proofs.ways.count_ways.Goals as goal

pub loop-part-preserved : goal.loop-part-preserved
loop-part-preserved c =
    cut_more c.args.parts.now c.loop-part.part-index c.part-item.result c.loop-part.count c.times-count.result c.loop-part-test.true c.loop-part.invariant
    (subst (λ n. c.times-count.result ≡ min (c.loop-part.count * n) most_tried) (c.len.ensures ∙ ap many_sets c.part-item.is) c.times-count.ensures)

pub returns : goal.returns
returns c = cut_all c.args.parts.now c.loop-part.part-index c.loop-part.count c.loop-part-test.false c.loop-part.invariant
