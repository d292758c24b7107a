use Rattle.std.proofs.Common.{◌<◌, length, sym, subst}
use Rattle.pc_world_list.specs.Choices.{AreSetsOf}
use Rattle.pc_world_list.specs.Chosen.{chosen_parts}
use Rattle.pc_session.specs.Views.{SessionView}
use Rattle.pc_session.proofs.session.SessionChoices.sets.Goals as goal

pub chosen_sets-requires-clause-lent : goal.chosen_sets-requires-clause-lent
chosen_sets-requires-clause-lent c = (c.self.inside.state.theory.ground, c.self.invariant)

pub chosen_sets-requires-clause-place : goal.chosen_sets-requires-clause-place
chosen_sets-requires-clause-place c =
    let P : SessionView → Type 0 = λ v. c.args.part < length (chosen_parts v.sheet) in
    subst P (sym c.self.view_is) c.requires

pub returns : goal.returns
returns c =
    let P : SessionView → Type 0 = λ v. AreSetsOf v.sheet c.args.part c.chosen_sets.result.now in
    subst P c.self.view_is c.chosen_sets.ensures
