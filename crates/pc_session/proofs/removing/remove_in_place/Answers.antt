use Rattle.std.proofs.Common.{◌<◌, [], inl, set, length, arith, refl, sym, subst}
use Rattle.pc_justify_laws.specs.Edits.{edited}
use Rattle.pc_search.specs.Parts.{AreWorldsOf}
use Rattle.pc_session.specs.inside.Sessions.{IsSession}
use Rattle.pc_session.specs.inside.Taken.{takes}
use Rattle.pc_theory.specs.Theories.{rules_alone, IsPartNumbered, IsTheory}
use Rattle.pc_session.proofs.Choosing.{chosen_after, mark_within}
use Rattle.pc_session.proofs.LeftWorlds.{worlds_new}
use Rattle.pc_session.proofs.Placing.{index_within}
use Rattle.pc_session.proofs.Unused.{unused_session}
use Rattle.pc_session.proofs.removing.remove_in_place.Goals as goal

pub part_of-part-requires : goal.part_of-part-requires
part_of-part-requires c = record { theory = c.requires.state.known; cell = c.requires.cell }

pub index_mut-requires : goal.index_mut-requires
index_mut-requires c =
    let s = c.args.state.now in
    let within : c.part_of-part.result < length s.worlds.items = index_within s.book s.theory s.worlds.items s.cache.rows c.requires.state c.requires.formed c.part_of-part.result c.part_of-part.ensures.within in
    omega (arith, within, s.worlds.ok)

pub returns-clause-state : goal.returns-clause-state
returns-clause-state c =
    let s = c.args.state.now in
    let gone = takes c.args.taken in
    let p = c.part_of-part.ensures.has in
    let within : c.part_of-part.result < length s.worlds.items = index_within s.book s.theory s.worlds.items s.cache.rows c.requires.state c.requires.formed c.part_of-part.result c.part_of-part.ensures.within in
    subst (λ b. IsSession b s.theory (set s.worlds.items c.part_of-part.result c.take_away.new.worlds) s.cache.rows) (sym c.take_away.ensures.book)
    (unused_session s.book s.theory s.worlds.items s.cache.rows c.requires.state c.requires.formed c.args.cell gone c.requires.taken c.requires.unused c.part_of-part.result p.0 p.1 p.2 c.take_away.new.worlds
    (worlds_new s.book (edited s.book gone []) s.theory s.worlds.items s.cache.rows c.requires.state c.requires.formed gone refl c.part_of-part.result within c.index_mut.result.now c.take_away.new.worlds c.index_mut.ensures.value
    (λ q h. subst (λ b. AreWorldsOf b q c.take_away.new.worlds) c.take_away.ensures.book (c.take_away.ensures.worlds q h)) p.0 p.1)
    c.edited_reasons_are_right.ensures)

pub choose-requires-clause-theory : goal.choose-requires-clause-theory
choose-requires-clause-theory c = let s = c.args.state.now in subst (λ b. IsTheory (rules_alone b) s.theory) (sym c.take_away.ensures.book) c.requires.state.known

pub choose-requires-clause-part : goal.choose-requires-clause-part
choose-requires-clause-part c =
    let s = c.args.state.now in let p = c.part_of-part.ensures.has in mark_within s.book s.theory c.requires.state.known s.chosen c.requires.chosen c.part_of-part.result p.0 p.1

pub returns-clause-chosen : goal.returns-clause-chosen
returns-clause-chosen c =
    let s = c.args.state.now in
    let gone = takes c.args.taken in
    let p = c.part_of-part.ensures.has in
    let at = subst (λ b. IsPartNumbered (rules_alone b) c.part_of-part.result p.0) (sym c.take_away.ensures.book) p.1 in
    chosen_after s.book s.theory c.requires.state.known c.args.cell gone [] (record { takes = c.requires.taken; adds = inl refl }) c.part_of-part.result p.0 p.1 p.2 s.chosen c.choose.new.chosen c.requires.chosen
    c.take_away.new.book c.take_away.ensures.book (c.choose.ensures p.0 at)
