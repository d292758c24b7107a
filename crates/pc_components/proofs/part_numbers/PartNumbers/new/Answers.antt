use Rattle.std.proofs.Common.{ap, ◌∙◌}
use Rattle.pc_ground.specs.GroundView.{Grounded}
use Rattle.pc_components.proofs.NumbersRight.{labels_same}
use Rattle.pc_components.proofs.PartNumbersRight.{labels_length}
use Rattle.pc_components.proofs.part_numbers.PartNumbers.new.Goals as goal

pub by_labels-requires-clause-labels : goal.by_labels-requires-clause-labels
by_labels-requires-clause-labels c =
    let sheet = c.args.book.now in
    let rows = c.reads.result.now in
    c.deref.ensures.value
    ∙ labels_same rows c.cells.result c.in_ok-labels.labels.items c.in_ok-labels.ensures sheet c.well_formed-2.ensures (c.reads.ensures ∙ ap (λ (g : Grounded). g.reads) c.requires) c.cells.ensures.exact (labels_length sheet)
