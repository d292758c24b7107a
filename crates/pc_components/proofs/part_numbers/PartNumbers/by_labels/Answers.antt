use Rattle.std.proofs.Common.{ap, arith, map, refl, subst, sym, ◌∙◌}
use Rattle.pc_ground.specs.GroundView.{Grounded}
use Rattle.pc_components.specs.inside.Numbers.{AreOwn, own_firsts, piece_number}
use Rattle.pc_components.proofs.AskedLabels.{own_labels}
use Rattle.pc_components.proofs.PartNumbersRight.{numbers_right}
use Rattle.pc_components.proofs.part_numbers.PartNumbers.by_labels.Goals as goal

pub number_cells-requires : goal.number_cells-requires
number_cells-requires c = subst AreOwn (sym c.requires.labels) (own_labels c.args.book.now c.well_formed-2.ensures)

pub returns : goal.returns
returns c =
    let sheet = c.args.book.now in
    let formed = c.well_formed-2.ensures in
    let rows = c.reads-rows.result.now in
    let labels = c.args.labels.now in
    let cells = c.in_ok-cells.cells.items in
    let last = c.in_ok-cells.parts in
    numbers_right sheet formed rows labels (own_firsts labels) cells c.in_ok-pieces.pieces.items _ last (c.reads-rows.ensures ∙ ap (λ (g : Grounded). g.reads) c.requires.ground)
    c.requires.labels
    refl
    c.in_ok-cells.ensures.numbers
    c.in_ok-cells.ensures.count
    (c.in_ok-pieces.ensures ∙ ap (λ ns. map (piece_number ns last) rows) c.deref.ensures.value)
    (let e = c.count_last.ensures.exact in omega (arith, e))
