use Rattle.std.proofs.Common.{◌∷◌, [], ap, arith, refl, ◌∙◌}
use Rattle.pc_parts.specs.Components.{renamed}
use Rattle.pc_components.proofs.TiedRight.{front_none, one_more, all_done}
use Rattle.pc_components.proofs.tied.rename.Goals as goal

pub loop-cell-init : goal.loop-cell-init
loop-cell-init c = front_none (renamed (c.args.first ∷ c.args.second ∷ [])) c.args.labels.now.items

pub loop-cell-preserved : goal.loop-cell-preserved
loop-cell-preserved c =
    one_more (renamed (c.args.first ∷ c.args.second ∷ [])) c.loop-cell.cell c.args.labels.now.items c.loop-cell.labels.items _ c.index.result.now c.renamed.result c.loop-cell.invariant
    (c.renamed.ensures ∙ ap (renamed (c.args.first ∷ c.args.second ∷ [])) c.index.ensures) refl

pub returns : goal.returns
returns c =
    all_done (renamed (c.args.first ∷ c.args.second ∷ [])) c.loop-cell.cell c.args.labels.now.items c.loop-cell.labels.items c.loop-cell.invariant
    (omega (arith, c.loop-cell-test.false, c.len-cell-end.ensures, c.args.labels.now.ok.0))
