use Rattle.std.proofs.Common.{◌<◌, length, sym, subst}
use Rattle.pc_sheet.specs.Sheet.{Sheet}
use Rattle.pc_world_list.specs.Choices.{AreSetsOf}
use Rattle.pc_world_list.specs.Chosen.{chosen_parts}
use Rattle.pc_session.proofs.questions.LentChoices.sets.Goals as goal

pub chosen_sets-requires-clause-lent : goal.chosen_sets-requires-clause-lent
chosen_sets-requires-clause-lent c = c.self.invariant

pub chosen_sets-requires-clause-place : goal.chosen_sets-requires-clause-place
chosen_sets-requires-clause-place c = subst (λ (b : Sheet). c.args.part < length (chosen_parts b)) (sym c.self.view_is) c.requires

pub returns : goal.returns
returns c = subst (λ (b : Sheet). AreSetsOf b c.args.part c.chosen_sets.result.now) c.self.view_is c.chosen_sets.ensures
