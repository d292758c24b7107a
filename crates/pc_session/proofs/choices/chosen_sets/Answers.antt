use Rattle.std.proofs.Common.{◌<◌, length, arith}
use Rattle.pc_theory.specs.Theories.{TheoryView}
use Rattle.pc_session.proofs.Choosing.{place_within, sets_lent, worlds_kept}
use Rattle.pc_session.proofs.choices.chosen_sets.Goals as goal

pub get-number-requires : goal.get-number-requires
get-number-requires c =
    let s = c.args.state.now in
    let lent = c.requires.lent in
    let theory : TheoryView = record s.theory { ground = lent.0 } in
    place_within s.book theory lent.1.state.known s.chosen lent.1.chosen c.args.place c.requires.place

pub index-requires : goal.index-requires
index-requires c =
    let s = c.args.state.now in
    let lent = c.requires.lent in
    let theory : TheoryView = record s.theory { ground = lent.0 } in
    let within : c.get-number.result < length s.worlds.items = worlds_kept s.book theory s.worlds.items s.cache.rows lent.1.state s.chosen lent.1.chosen c.args.place c.get-number.result c.get-number.ensures in
    omega (arith, within, s.worlds.ok)

pub returns : goal.returns
returns c =
    let s = c.args.state.now in
    let lent = c.requires.lent in
    let theory : TheoryView = record s.theory { ground = lent.0 } in
    sets_lent s.book theory s.worlds.items s.cache.rows lent.1.state s.chosen lent.1.chosen c.args.place c.get-number.result c.get-number.ensures c.index.result.now c.index.ensures
