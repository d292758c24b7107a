use Rattle.std.proofs.Common.{◌<◌, length, sym, subst}
use Rattle.pc_world_list.specs.Choices.{AreCellsOf}
use Rattle.pc_world_list.specs.Chosen.{chosen_parts}
use Rattle.pc_session.specs.Views.{SessionView}
use Rattle.pc_session.proofs.session.SessionChoices.cells.Goals as goal

pub chosen_cells-requires-clause-lent : goal.chosen_cells-requires-clause-lent
chosen_cells-requires-clause-lent c = (c.self.inside.state.theory.ground, c.self.invariant)

pub chosen_cells-requires-clause-place : goal.chosen_cells-requires-clause-place
chosen_cells-requires-clause-place c =
    let P : SessionView → Type 0 = λ v. c.args.part < length (chosen_parts v.sheet) in
    subst P (sym c.self.view_is) c.requires

pub returns : goal.returns
returns c =
    let P : SessionView → Type 0 = λ v. AreCellsOf v.sheet c.args.part c.chosen_cells.result.now in
    subst P c.self.view_is c.chosen_cells.ensures
