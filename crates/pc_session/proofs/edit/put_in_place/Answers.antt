use Rattle.std.proofs.Common.{◌<◌, length, arith, sym, subst}
use Rattle.pc_theory.specs.Theories.{rules_alone, IsPartNumbered, IsTheory}
use Rattle.pc_session.proofs.Choosing.{chosen_after, mark_within}
use Rattle.pc_session.proofs.Placing.{done, part_within, changes_placed}
use Rattle.pc_session.proofs.edit.put_in_place.Goals as goal

pub apply-requires : goal.apply-requires
apply-requires c = let s = c.args.state.now in let m = c.requires in changes_placed m.0 s.cache.rows m.5.session.places m.1 m.2 m.3 m.4 c.args.edit m.6

pub index_mut-requires : goal.index_mut-requires
index_mut-requires c =
    let s = c.args.state.now in
    let m = c.requires in
    let within : c.args.edit.part < length s.worlds.items = part_within m.0 s.theory s.worlds.items s.cache.rows m.5.session m.5.formed m.1 m.2 m.3 m.4 c.args.edit m.5.is_edit m.6 in
    omega (arith, within, s.worlds.ok)

pub returns-clause-done : goal.returns-clause-done
returns-clause-done c sheet d gone added limit has made =
    let s = c.args.state.now in
    let h = done c.edited_reasons_are_right.ensures sheet s.theory s.worlds.items s.cache.rows has.session has.formed d gone added limit c.args.edit has.is_edit s.book has.book c.well_formed-2.ensures made c.apply.new.self.rows c.in_ok-apply.ensures.targets c.in_ok-apply.ensures.rows in
    record { sheet_is = has.book; session = h.0; spends = h.1; stays = h.2; others = h.3; steps = h.4 }

pub returns-clause-bytes : goal.returns-clause-bytes
returns-clause-bytes c = let few = c.requires.6.changes_are.bytes c.apply.new.self.rows c.in_ok-apply.ensures.rows in omega (arith, c.in_ok-apply.ensures.bytes, few)

pub choose-requires-clause-theory : goal.choose-requires-clause-theory
choose-requires-clause-theory c = let s = c.args.state.now in let m = c.requires in subst (λ b. IsTheory (rules_alone b) s.theory) (sym m.5.book) m.5.session.known

pub choose-requires-clause-part : goal.choose-requires-clause-part
choose-requires-clause-part c = let s = c.args.state.now in let m = c.requires in mark_within m.0 s.theory m.5.session.known s.chosen m.5.chosen c.args.edit.part m.6.part m.6.numbered

pub returns-clause-chosen : goal.returns-clause-chosen
returns-clause-chosen c =
    let s = c.args.state.now in
    let m = c.requires in
    let e = m.6 in
    let at = subst (λ b. IsPartNumbered (rules_alone b) c.args.edit.part e.part) (sym m.5.book) e.numbered in
    chosen_after m.0 s.theory m.5.session.known m.1 m.2 m.3 m.5.is_edit c.args.edit.part e.part e.numbered e.has s.chosen c.choose.new.chosen m.5.chosen s.book m.5.book (c.choose.ensures e.part at)

pub returns-clause-exact : goal.returns-clause-exact
returns-clause-exact c = c.in_ok-apply.ensures.exact
