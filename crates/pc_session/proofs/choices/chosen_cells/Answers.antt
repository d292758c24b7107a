use Rattle.pc_theory.specs.Theories.{rules_alone, TheoryView}
use Rattle.pc_theory.proofs.OfWhole.{all_searched}
use Rattle.pc_theory.proofs.Parted.{part_is}
use Rattle.pc_session.proofs.Choosing.{cells_lent, part_kept, place_within}
use Rattle.pc_session.proofs.choices.chosen_cells.Goals as goal

pub get-number-requires : goal.get-number-requires
get-number-requires c =
    let s = c.args.state.now in
    let lent = c.requires.lent in
    let theory : TheoryView = record s.theory { ground = lent.0 } in
    place_within s.book theory lent.1.state.known s.chosen lent.1.chosen c.args.place c.requires.place

pub part-requires : goal.part-requires
part-requires c =
    let s = c.args.state.now in
    let lent = c.requires.lent in
    let theory : TheoryView = record s.theory { ground = lent.0 } in
    rw c.components.ensures (part_kept s.book theory s.worlds.items s.cache.rows lent.1.state s.chosen lent.1.chosen c.args.place c.get-number.result c.get-number.ensures)

pub returns : goal.returns
returns c =
    let s = c.args.state.now in
    let lent = c.requires.lent in
    let theory : TheoryView = record s.theory { ground = lent.0 } in
    let are = all_searched (rules_alone s.book) s.theory.components lent.1.state.known.components in
    let there = rw c.components.ensures at c.part.ensures.cells in
    cells_lent s.book theory s.worlds.items s.cache.rows lent.1.state s.chosen lent.1.chosen c.args.place c.get-number.result c.get-number.ensures c.part.result.cells.now
    (λ p numbered. part_is s.book _ are c.get-number.result _ there p numbered)
