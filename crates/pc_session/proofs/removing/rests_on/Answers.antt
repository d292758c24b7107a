use Rattle.pc_session.specs.inside.Taken.{takes}
use Rattle.pc_session.proofs.Resting.{told, unused_right, used_right}
use Rattle.pc_session.proofs.removing.rests_on.Goals as goal

pub part_of-part-requires : goal.part_of-part-requires
part_of-part-requires c = record { theory = c.requires.state.known; cell = c.requires.cell }

pub returns : goal.returns
returns c =
    let s = c.args.state.now in
    let p = c.part_of-part.ensures.has in
    let gone = takes c.args.taken in
    told c.is_used.result gone s.cache.rows (λ is. let t = c.is_used.ensures.some is in used_right gone s.cache.rows t.0 t.2)
    (λ none. unused_right c.other_parts_stay.ensures s.book s.theory s.cache.rows c.requires.formed c.requires.state.known c.requires.state.reasons c.requires.state.places c.args.cell gone c.requires.taken c.part_of-part.result p.0 c.cells-cells.result.now p.1 p.2
    (c.cells-cells.ensures.are p.0 p.1) (λ t there is. none (c.is_used.ensures.none t there is)))
