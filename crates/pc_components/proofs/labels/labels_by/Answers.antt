use Rattle.std.proofs.Common.{subst, sym}
use Rattle.pc_components.specs.Labels.{AreLabels}
use Rattle.pc_components.specs.Traversal.{Traversal}
use Rattle.pc_components.proofs.TraversalRight.{at_end}
use Rattle.pc_components.proofs.labels.labels_by.Goals as goal

pub returns : goal.returns
returns c =
    subst (λ (t : Traversal). AreLabels c.args.rows.now c.args.count t.labels) (sym c.labels.view_is)
    (at_end c.args.rows.now c.args.count c.requires 0 _ c.in_ok-labels.ensures.all c.in_ok-labels.ensures.search)
