use Rattle.std.proofs.Common.{ap, sym, subst, ◌∙◌}
use Rattle.pc_components.specs.View.{AreComponentsOf}
use Rattle.pc_theory.specs.Theories.{TheoryView}
use Rattle.pc_session.proofs.LentGround.{lent_away, parts_known}
use Rattle.pc_session.proofs.questions.ask_lent.Goals as goal

pub invariant_of-lent : goal.invariant_of-lent
invariant_of-lent c = lent_away c.args.state.now c.requires.kept c.take_ground-ground.new.self c.take_ground-ground.ensures.rest

pub ask-answer-requires-clause-components : goal.ask-answer-requires-clause-components
ask-answer-requires-clause-components c =
    let old = c.args.state.now in
    subst (AreComponentsOf old.book) (sym (c.components.ensures ∙ ap (λ (t : TheoryView). t.components) c.take_ground-ground.ensures.rest)) (parts_known old.book old.theory.components c.requires.kept.state.known.components)
